-- No place of a layout's passes is over a limit, nor is any on the way there.
use Rattle.sigma_lower.proofs.Words.{◌≡◌, ℕ, ◌+◌, ◌*◌, ◌<◌, ◌≤◌, arith, refl, sym, ap, ◌∙◌, List, [], ◌∷◌, ◌++◌, length}
use Rattle.sigma_lower.proofs.Words.{subst, mul_comm, Some, mul-le-mul_right, mul-le, Mapping, Strided, ThomasIn}
use Rattle.sigma_lower.proofs.Words.{ThomasBack, Target, IsProper, Sum, constant, variable, top, scaled, added}
use Rattle.sigma_lower.proofs.Words.{Divided, simplified, top-scaled, top-added, divided-added, proper-added}
use Rattle.sigma_lower.proofs.Words.{proper-scaled, none-some, same_Some, PlainDiagonal, PlainPass, new_pass, scattered}
use Rattle.sigma_lower.proofs.Words.{multiplied, at_last, Fits, place_sum, AreCounts, all_simplified, IsLimitedPass}
use Rattle.sigma_lower.proofs.Words.{HasRoomFor, PlainWork, work_size, Layout, work, by, layout_size, IsGoodLayout}
use Rattle.sigma_lower.proofs.Words.{wrapped, inner_of, unit_of, Tensor, Blocks, Columns, Path, grown, size_under}
use Rattle.sigma_lower.proofs.Words.{size_under-push, Rule, Gt, Ct, CanShareLayout, parts, reduced, turned-added}
use Rattle.sigma_lower.proofs.Words.{parts-scaled, parts-added, IsTame}
use Rattle.sigma_lower.proofs.TreeLoops.InnerPlaces.{inner-place, room-inner}
use Rattle.sigma_lower.proofs.TreeLoops.InCopies.{simplified-wrapped, room-wrapped}
use Rattle.sigma_lower.proofs.TreeLoops.RuleRoom.{thomas_in-room, turns-room, thomas_back-room}
use Rattle.sigma_lower.proofs.TreeLoops.PlaceSums.{tensor_sum, place_sum-push, counts-push, variable-fits, parts-fit}
use Rattle.sigma_lower.proofs.TreeLoops.PlaceSums.{tensor_sum-fits, place_sum-fits, all_simplified-append}
use Rattle.sigma_lower.proofs.TreeLoops.PartRules.{IsSize, IsRuleIn, rule_in, coprime_in}
use Rattle.sigma_lower.proofs.TreeLoops.Staying.{StaysIn, carried-push}
use Rattle.sigma_lower.proofs.TreeLoops.TameSums.{tame-scaled, tame-added, reduced-fits}
use Rattle.sigma_lower.proofs.TreeLoops.PassLists.{AllPasses, all-append, all-last, all-map, map-last}
use Rattle.sigma_lower.proofs.TreeLoops.TreePasses.{back, rule_waiting, rule_passes, layout_passes}
use Rattle.sigma_lower.proofs.TreeTerms.Lowering.{AreCoprime, unit_positive, unit_small}

-- ---- a tensor at a place, and the permutation of a rule

-- numbers of an array of n words
record AreInArray (n a b k size : ℕ) : Type 0 where
  high : n ≤ 1048576
  first : a ≤ n
  second : b ≤ n
  count : k ≤ n
  half : 2 * size ≤ n

low-product : (a t n : ℕ) → n ≤ 1048576 → a ≤ n → t < n → a * t ≤ 1099511627776
low-product a t n high h g = mul-le a t 1048576 1048576 (omega arith) (omega arith)

-- two multiples, modulo n
mixed : (cs : ℕ → ℕ) (n a b d size : ℕ) (e : Sum) → AreInArray n a b (cs d) size → 0 < a → 0 < b → Fits size e cs →
    2 ≤ cs d →
    Fits n (reduced cs n (added (scaled a (variable 1 d (constant 0))) (scaled b e))) cs
    × Fits n (reduced cs n (added (scaled b e) (scaled a (variable 1 d (constant 0))))) cs
mixed cs n a b d size e within p q f two =
    let v = variable 1 d (constant 0) in
    let one = added (scaled a v) (scaled b e) in
    let other = added (scaled b e) (scaled a v) in
    let proper_v : IsProper (scaled a v) cs = proper-scaled a v cs p (omega arith, two, tt) in
    let proper_e : IsProper (scaled b e) cs = proper-scaled b e cs q f.proper in
    let tame_e : IsTame cs (scaled b e) = tame-scaled cs b e f.tame in
    let some : 0 < size = omega (arith, f.small) in
    let half = within.half in
    let high = within.high in
    let count = within.count in
    let left : a * top v cs ≤ 1099511627776 = low-product a (top v cs) n high within.first (omega (arith, count, two)) in
    let right : b * top e cs ≤ 1099511627776 = low-product b (top e cs) n high within.second (omega (arith, f.small, half)) in
    let tops : (top (scaled a v) cs ≡ a * top v cs) × (top (scaled b e) cs ≡ b * top e cs) = (top-scaled a v cs, top-scaled b e cs) in (
      reduced-fits cs n size (parts e) one half some high (proper-added (scaled a v) (scaled b e) cs proper_v proper_e) (tame-added cs (scaled a v) (scaled b e) tt tame_e) (omega (arith, parts-added (scaled a v) (scaled b e), parts-scaled b e)) f.few
          (omega (arith, top-added (scaled a v) (scaled b e) cs, tops.0, tops.1, left, right)),
      reduced-fits cs n size (parts e) other half some high (proper-added (scaled b e) (scaled a v) cs proper_e proper_v) (tame-added cs (scaled b e) (scaled a v) tame_e tt) (omega (arith, parts-added (scaled b e) (scaled a v), parts-scaled b e)) f.few
          (omega (arith, top-added (scaled b e) (scaled a v) cs, tops.0, tops.1, left, right)),
    )

-- the numbers of a product of at least 2 by 2
product-array : (r s a b : ℕ) → 2 ≤ r → 2 ≤ s → r * s ≤ 1048576 → a ≤ r * s → b ≤ r * s →
    AreInArray (r * s) a b r s × AreInArray (r * s) a b s r
product-array r s a b h g high first second =
    let one : 2 * s ≤ r * s = mul-le-mul_right s h in
    let other : 2 * r ≤ s * r = mul-le-mul_right r g in
    let turned : s * r ≡ r * s = mul_comm s r in (
      record { high = high; first = first; second = second; count = omega arith; half = one },
      record { high = high; first = first; second = second; count = omega arith; half = omega arith },
    )

pub thomas_in-one : (r s d : ℕ) (e : Sum) (cs : ℕ → ℕ) → cs d ≡ r → 2 ≤ r → 2 ≤ s → r * s ≤ 1048576 → Fits s e cs →
    Fits (r * s) (simplified cs (ThomasIn r s) (tensor_sum (Blocks r) s d e)) cs
thomas_in-one r s d e cs count two_r two_s high f =
    let v = variable 1 d (constant 0) in
    let within = (product-array r s s r two_r two_s high (omega (arith, mul-le-mul_right s two_r)) (omega (arith, mul-le-mul_right r two_s, mul_comm s r))).0 in
    let is : simplified cs (ThomasIn r s) (tensor_sum (Blocks r) s d e) ≡ reduced cs (r * s) (added (scaled s v) (scaled r e)) =
    ap (λ (z : Divided). reduced cs (r * s) (added (scaled s z.quot) (scaled r z.rem))) (divided-added s v e cs (omega arith) f.proper f.small) in
    subst (λ g. Fits (r * s) g cs) (sym is) (mixed cs (r * s) s r d s e (subst (λ z. AreInArray (r * s) s r z s) (sym count) within) (omega arith) (omega arith) f (omega arith)).0

pub turns-one : (r s d : ℕ) (e : Sum) (cs : ℕ → ℕ) → cs d ≡ r → 2 ≤ r → 2 ≤ s → Fits s e cs →
    Fits (r * s) (simplified cs (Strided r s) (tensor_sum (Blocks r) s d e)) cs
turns-one r s d e cs count two_r two_s f =
    let v = variable 1 d (constant 0) in
    let positive : 0 < r = omega arith in
    let is : simplified cs (Strided r s) (tensor_sum (Blocks r) s d e) ≡ added (scaled r e) v = turned-added r s v e cs (omega arith) f.proper f.small in
    let fit : Fits (s * r) (added (scaled r e) v) cs = parts-fit s r e v cs positive f (variable-fits r d cs count two_r) in
    subst (λ g. Fits (r * s) g cs) (sym is) (subst (λ n. Fits n (added (scaled r e) v) cs) (mul_comm s r) fit)

pub thomas_back-one : (r s d : ℕ) (e : Sum) (cs : ℕ → ℕ) → AreCoprime r s → cs d ≡ s → 2 ≤ r → 2 ≤ s → Fits r e cs →
    Fits (r * s) (simplified cs (ThomasBack r s (unit_of r s) (unit_of s r)) (tensor_sum (Columns s) r d e)) cs
thomas_back-one r s d e cs both count two_r two_s f =
    let v = variable 1 d (constant 0) in
    let fit = variable-fits s d cs count two_s in
    let units = unit_positive r s both two_r two_s in
    let bounds = unit_small r s both in
    let within = (product-array r s (unit_of s r) (unit_of r s) two_r two_s both.small (omega (arith, bounds.1)) (omega (arith, bounds.0))).1 in
    let is : simplified cs (ThomasBack r s (unit_of r s) (unit_of s r)) (tensor_sum (Columns s) r d e) ≡ reduced cs (r * s) (added (scaled (unit_of r s) e) (scaled (unit_of s r) v)) =
    ap (λ (z : Divided). reduced cs (r * s) (added (scaled (unit_of r s) z.quot) (scaled (unit_of s r) z.rem))) (divided-added s e v cs (omega arith) fit.proper fit.small) in
    subst (λ g. Fits (r * s) g cs) (sym is) (mixed cs (r * s) (unit_of s r) (unit_of r s) d r e (subst (λ z. AreInArray (r * s) (unit_of s r) (unit_of r s) z r) (sym count) within) units.1 units.0 f (omega arith)).1

-- ---- gathers: from the pass outwards to a whole of a number of words

abbrev pub Gathering : ℕ → Path → List Mapping → ℕ → Type 0
Gathering size path waiting n = (cs : ℕ → ℕ) (d : ℕ) (e : Sum) → AreCounts path n d cs → Fits n e cs → StaysIn cs size waiting (place_sum path n d e)

-- natural places
pub natural-fits : (size : ℕ) (path : Path) (n d : ℕ) (e : Sum) (cs : ℕ → ℕ) → size_under path n ≡ size →
    AreCounts path n d cs → Fits n e cs → Fits size (place_sum path n d e) cs
natural-fits size path n d e cs whole counts fits = subst (λ m. Fits m (place_sum path n d e) cs) whole (place_sum-fits path n d e cs counts fits)

pub gathering-natural : (size : ℕ) (path : Path) (n : ℕ) → size_under path n ≡ size → Gathering size path [] n
gathering-natural size path n whole cs d e counts fits = natural-fits size path n d e cs whole counts fits

-- the place under one tensor
pub at-tensor : (path : Path) (t : Tensor) (n d : ℕ) (e : Sum) (cs : ℕ → ℕ) → AreCounts (path ++ t ∷ []) n d cs →
    Fits n e cs → Fits (grown t n) (tensor_sum t n (d + length path) e) cs
at-tensor path t n d e cs counts fits = let p = counts-push path t n d cs counts in tensor_sum-fits t n (d + length path) e cs p.count p.two p.positive fits

pub gathering-push : (size : ℕ) (path : Path) (waiting : List Mapping) (t : Tensor) (n : ℕ) →
    Gathering size path waiting (grown t n) → Gathering size (path ++ t ∷ []) waiting n
gathering-push size path waiting t n g cs d e counts fits =
    subst (StaysIn cs size waiting) (sym (place_sum-push path t n d e)) (g cs d (tensor_sum t n (d + length path) e) (counts-push path t n d cs counts).before (at-tensor path t n d e cs counts fits))

-- with a permutation before a rule's right part
gathering-mapped : (size : ℕ) (path : Path) (waiting : List Mapping) (f : Mapping) (r s : ℕ) →
    ((d : ℕ) (e : Sum) (cs : ℕ → ℕ) → cs d ≡ r → Fits s e cs →
    Fits (r * s) (simplified cs f (tensor_sum (Blocks r) s d e)) cs) →
    ((d : ℕ) (e : Sum) (cs : ℕ → ℕ) → cs d ≡ r → Fits s e cs → HasRoomFor cs f (tensor_sum (Blocks r) s d e)) →
    size_under path (r * s) ≡ size → size ≤ 1048576 →
    Gathering size path waiting (r * s) → Gathering size (path ++ Blocks r ∷ []) (wrapped path (r * s) f ∷ waiting) s
gathering-mapped size path waiting f r s step room whole high g cs d e counts fits =
    let p = counts-push path (Blocks r) s d cs counts in
    let at_tensor = tensor_sum (Blocks r) s (d + length path) e in
    let inside = at-tensor path (Blocks r) s d e cs counts fits in
    let one = step (d + length path) e cs p.count fits in
    subst (StaysIn cs size (wrapped path (r * s) f ∷ waiting)) (sym (place_sum-push path (Blocks r) s d e)) (
      natural-fits size path (r * s) d at_tensor cs whole p.before inside,
      room-wrapped path (r * s) d f at_tensor cs p.before inside one (omega (arith, whole, high)) (room (d + length path) e cs p.count fits),
      subst (StaysIn cs size waiting) (sym (simplified-wrapped path (r * s) d f at_tensor cs p.before inside)) (g cs d (simplified cs f at_tensor) p.before one),
    )

gathering_rule : (size : ℕ) (rule : Rule) (path : Path) (r s : ℕ) (waiting : List Mapping) →
    IsRuleIn size rule path r s → Gathering size path waiting (r * s) →
    Gathering size (path ++ Blocks r ∷ []) (rule_waiting rule path r s waiting) s
gathering_rule size Gt path r s waiting h g =
    gathering-mapped size path waiting (ThomasIn r s) r s (λ d e cs count fits. thomas_in-one r s d e cs count h.left h.right h.small fits)
    (λ d e cs count fits. thomas_in-room r s d e cs count h.left h.right h.small fits) h.fills h.whole.high g
gathering_rule size Ct path r s waiting h g =
    gathering-mapped size path waiting (Strided r s) r s (λ d e cs count fits. turns-one r s d e cs count h.left h.right fits)
    (λ d e cs count fits. turns-room r s d e cs count h.left h.right h.small fits) h.fills h.whole.high g
gathering_rule size _ path r s waiting h g = gathering-push size path waiting (Blocks r) s g

-- ---- scatters: from the pass inwards out to a node

-- where a pass stores the item that e names, the loops' variables being those from d on
abbrev pub scatter_from : (ℕ → ℕ) → PlainPass → ℕ → Sum → Sum
scatter_from cs p d e = all_simplified cs p.afters (place_sum p.path (work_size p.work) d e)

pub record IsPlacedAt (cs : ℕ → ℕ) (path : Path) (n d : ℕ) (place : Sum) : Type 0 where
  pub inner : Sum
  pub is : place ≡ place_sum path n d inner
  pub counts : AreCounts path n d cs
  pub fits : Fits n inner cs

pub record Scattering (size : ℕ) (path : Path) (n : ℕ) (p : PlainPass) : Type 0 where
  pub placed : (cs : ℕ → ℕ) (d : ℕ) (e : Sum) → AreCounts p.path (work_size p.work) d cs →
      Fits (work_size p.work) e cs → IsPlacedAt cs path n d (scatter_from cs p d e)
  pub stays : (cs : ℕ → ℕ) (d : ℕ) (e : Sum) → AreCounts p.path (work_size p.work) d cs → Fits (work_size p.work) e cs →
      StaysIn cs size p.afters (place_sum p.path (work_size p.work) d e)

scattering-new : (size : ℕ) (path : Path) (waiting : List Mapping) (w : PlainWork) →
    size_under path (work_size w) ≡ size → Scattering size path (work_size w) (new_pass path w waiting)
scattering-new size path waiting w whole =
    record {
      placed = λ cs d e counts fits. record { inner = e; is = refl; counts = counts; fits = fits };
      stays = λ cs d e counts fits. natural-fits size path (work_size w) d e cs whole counts fits;
    }

scattering-lift : (size : ℕ) (path : Path) (t : Tensor) (n : ℕ) (p : PlainPass) → Scattering size (path ++ t ∷ []) n p →
    Scattering size path (grown t n) p
scattering-lift size path t n p h =
    record {
      placed = λ cs d e counts fits.
          let at_inner = h.placed cs d e counts fits in
          record {
            inner = tensor_sum t n (d + length path) at_inner.inner;
            is = at_inner.is ∙ place_sum-push path t n d at_inner.inner;
            counts = (counts-push path t n d cs at_inner.counts).before;
            fits = at-tensor path t n d at_inner.inner cs at_inner.counts at_inner.fits;
          };
      stays = h.stays;
    }

-- the inverse of a rule by coprime factors, at the place under its tensor
record IsTakenBack (cs : ℕ → ℕ) (size : ℕ) (path : Path) (r s d : ℕ) (place : Sum) : Type 0 where
  at_whole : IsPlacedAt cs path (r * s) d (simplified cs (wrapped path (r * s)
      (ThomasBack r s (unit_of r s) (unit_of s r))) place)
  room : HasRoomFor cs (wrapped path (r * s) (ThomasBack r s (unit_of r s) (unit_of s r))) place
  fits : Fits size (simplified cs (wrapped path (r * s) (ThomasBack r s (unit_of r s) (unit_of s r))) place) cs

taken_back : (size : ℕ) (path : Path) (r s d : ℕ) (cs : ℕ → ℕ) (place : Sum) → IsRuleIn size Gt path r s →
    IsPlacedAt cs (path ++ Columns s ∷ []) r d place → IsTakenBack cs size path r s d place
taken_back size path r s d cs place h there =
    let f = ThomasBack r s (unit_of r s) (unit_of s r) in
    let both : AreCoprime r s = coprime_in size path r s h in
    let q = counts-push path (Columns s) r d cs there.counts in
    let at_tensor = tensor_sum (Columns s) r (d + length path) there.inner in
    let inside = at-tensor path (Columns s) r d there.inner cs there.counts there.fits in
    let made = thomas_back-one r s (d + length path) there.inner cs both q.count h.left h.right there.fits in
    let units = unit_positive r s both h.left h.right in
    let bounds = unit_small r s both in
    let before : place ≡ place_sum path (r * s) d at_tensor = there.is ∙ place_sum-push path (Columns s) r d there.inner in
    let after : simplified cs (wrapped path (r * s) f) place ≡ place_sum path (r * s) d (simplified cs f at_tensor) =
    ap (simplified cs (wrapped path (r * s) f)) before ∙ simplified-wrapped path (r * s) d f at_tensor cs q.before inside in
    record {
      at_whole = record { inner = simplified cs f at_tensor; is = after; counts = q.before; fits = made };
      room = subst (HasRoomFor cs (wrapped path (r * s) f)) (sym before)
          (room-wrapped path (r * s) d f at_tensor cs q.before inside made (omega (arith, h.fills, h.whole.high))
          (thomas_back-room r s (unit_of r s) (unit_of s r) (d + length path) there.inner cs q.count h.left h.right both.small units.0 bounds.0 units.1 bounds.1 there.fits));
      fits = subst (λ g. Fits size g cs) (sym after) (natural-fits size path (r * s) d (simplified cs f at_tensor) cs h.fills q.before made);
    }

scattering-back : (size : ℕ) (path : Path) (r s : ℕ) (p : PlainPass) → IsRuleIn size Gt path r s →
    Scattering size (path ++ Columns s ∷ []) r p →
    Scattering size path (r * s) (scattered (wrapped path (r * s) (ThomasBack r s (unit_of r s) (unit_of s r))) p)
scattering-back size path r s p rule h =
    let f = wrapped path (r * s) (ThomasBack r s (unit_of r s) (unit_of s r)) in
    record {
      placed = λ cs d e counts fits.
          let back = (taken_back size path r s d cs (scatter_from cs p d e) rule (h.placed cs d e counts fits)).at_whole in
          record {
            inner = back.inner;
            is = all_simplified-append cs p.afters f (place_sum p.path (work_size p.work) d e) ∙ back.is;
            counts = back.counts;
            fits = back.fits;
          };
      stays = λ cs d e counts fits.
          let back = taken_back size path r s d cs (scatter_from cs p d e) rule (h.placed cs d e counts fits) in
          carried-push cs size size p.afters f (place_sum p.path (work_size p.work) d e) (h.stays cs d e counts fits) back.room back.fits;
    }

-- ---- all passes of a layout

-- the places in a ct's diagonal, past the functions before its own
pub record IsMultiplied (cs : ℕ → ℕ) (size : ℕ) (p : PlainPass) (d : PlainDiagonal) (v : ℕ) (e : Sum) : Type 0 where
  pub stays : StaysIn cs size d.places (place_sum p.path (work_size p.work) v e)
  pub room : HasRoomFor cs (inner_of d.path (d.rows * d.cols))
      (all_simplified cs d.places (place_sum p.path (work_size p.work) v e))
  pub fits : Fits (d.rows * d.cols) (simplified cs (inner_of d.path (d.rows * d.cols))
      (all_simplified cs d.places (place_sum p.path (work_size p.work) v e))) cs

abbrev pub Multiplying : ℕ → PlainPass → PlainDiagonal → Type 0
Multiplying size p d = (cs : ℕ → ℕ) (v : ℕ) (e : Sum) → AreCounts p.path (work_size p.work) v cs → Fits (work_size p.work) e cs → IsMultiplied cs size p d v e

pub record IsPlacedPass (size : ℕ) (path : Path) (n : ℕ) (p : PlainPass) : Type 0 where
  pub gathers : Gathering size p.path p.befores (work_size p.work)
  pub scatters : Scattering size path n p
  pub multiplies : (d : PlainDiagonal) → p.diagonal ≡ Some d → Multiplying size p d × (d.rows * d.cols ≤ size)

scattering-multiplies : (size : ℕ) (path : Path) (r s w : ℕ) (p : PlainPass) → r * s ≤ 1048576 →
    size_under path (r * s) ≤ 1048576 → Scattering size path (r * s) p →
    Multiplying size (multiplied path r s w p) (record { path = path; rows = r; cols = s; root = w; places = p.afters })
scattering-multiplies size path r s w p low high h cs d e counts fits =
    let there = h.placed cs d e counts fits in
    let inner = inner_of path (r * s) in
    let is : simplified cs inner (scatter_from cs p d e) ≡ there.inner = ap (simplified cs inner) there.is ∙ inner-place path (r * s) d there.inner cs there.counts there.fits in
    record {
      stays = h.stays cs d e counts fits;
      room = subst (HasRoomFor cs inner) (sym there.is) (room-inner path (r * s) d there.inner cs there.counts there.fits low high);
      fits = subst (λ g. Fits (r * s) g cs) (sym is) there.fits;
    }

abbrev pub ArePlaced : ℕ → Path → ℕ → List PlainPass → Type 0
ArePlaced size path n ps = AllPasses (IsPlacedPass size path n) ps

lift-one : (size : ℕ) (path : Path) (t : Tensor) (n : ℕ) (p : PlainPass) → IsPlacedPass size (path ++ t ∷ []) n p →
    IsPlacedPass size path (grown t n) p
lift-one size path t n p h = record { gathers = h.gathers; scatters = scattering-lift size path t n p h.scatters; multiplies = h.multiplies }

pub placed-lift : (size : ℕ) (path : Path) (t : Tensor) (n : ℕ) (ps : List PlainPass) →
    ArePlaced size (path ++ t ∷ []) n ps → ArePlaced size path (grown t n) ps
placed-lift size path t n =
    all-map (IsPlacedPass size (path ++ t ∷ []) n) (IsPlacedPass size path (grown t n)) (lift-one size path t n)

back-one : (size : ℕ) (path : Path) (r s : ℕ) (p : PlainPass) → IsRuleIn size Gt path r s →
    IsPlacedPass size (path ++ Columns s ∷ []) r p →
    IsPlacedPass size path (r * s) (scattered (wrapped path (r * s) (ThomasBack r s (unit_of r s) (unit_of s r))) p)
back-one size path r s p rule h =
    record {
      gathers = h.gathers;
      scatters = scattering-back size path r s p rule h.scatters;
      multiplies = λ d e.
          let m = h.multiplies d e in (λ cs v g counts fits. let at = m.0 cs v g counts fits in record { stays = at.stays; room = at.room; fits = at.fits }, m.1);
    }

pub placed-multiplied : (size : ℕ) (path : Path) (r s w : ℕ) (ps : List PlainPass) → r * s ≤ 1048576 →
    size_under path (r * s) ≤ 1048576 → r * s ≤ size → ArePlaced size path (r * s) ps →
    ArePlaced size path (r * s) (at_last (multiplied path r s w) ps)
placed-multiplied size path r s w ps low under within h =
    all-last (IsPlacedPass size path (r * s)) (multiplied path r s w) one ps h
  where
    one : (p : PlainPass) → IsPlacedPass size path (r * s) p →
        IsPlacedPass size path (r * s) (multiplied path r s w p)
    one p h = record {
      gathers = h.gathers;
      scatters = record { placed = h.scatters.placed; stays = h.scatters.stays };
      multiplies = λ d e.
          subst (λ (z : PlainDiagonal). Multiplying size (multiplied path r s w p) z × (z.rows * z.cols ≤ size))
          (same_Some _ d e) (scattering-multiplies size path r s w p low under h.scatters, within);
    }

placed_rule : (size : ℕ) (rule : Rule) (path : Path) (r s w : ℕ) (left right : List PlainPass) →
    IsRuleIn size rule path r s →
    ArePlaced size (path ++ Columns s ∷ []) r left → ArePlaced size (path ++ Blocks r ∷ []) s right →
    ArePlaced size path (r * s) (rule_passes rule path r s w left right)
placed_rule size rule path r s w left right h l k =
    by-rule rule h (placed-lift size path (Columns s) r left l) (placed-lift size path (Blocks r) s right k)
  where
    by-rule : (rule : Rule) → IsRuleIn size rule path r s → ArePlaced size path (r * s) left →
        ArePlaced size path (r * s) right → ArePlaced size path (r * s) (rule_passes rule path r s w left right)
    by-rule Gt h on_left on_right =
        all-append (IsPlacedPass size path (r * s)) right _ on_right
        (map-last (IsPlacedPass size (path ++ Columns s ∷ []) r) (IsPlacedPass size path (r * s))
        (lift-one size path (Columns s) r) (scattered (back path r s)) (λ p q. back-one size path r s p h q) left l)
    by-rule Ct h on_left on_right =
        all-append (IsPlacedPass size path (r * s)) _ left
        (placed-multiplied size path r s w right h.small (omega (arith, h.fills, h.whole.high)) h.within on_right) on_left
    by-rule _ h on_left on_right = all-append (IsPlacedPass size path (r * s)) right left on_right on_left

new-placed : (size : ℕ) (path : Path) (waiting : List Mapping) (w : PlainWork) → size_under path (work_size w) ≡ size →
    Gathering size path waiting (work_size w) → IsPlacedPass size path (work_size w) (new_pass path w waiting)
new-placed size path waiting w e g = record { gathers = g; scatters = scattering-new size path waiting w e; multiplies = λ d e. absurd (none-some d e) }

pub placed_passes : (m size : ℕ) (path : Path) (waiting : List Mapping) (l : Layout) → IsSize size → IsGoodLayout m l →
    size_under path (layout_size l) ≡ size → Gathering size path waiting (layout_size l) →
    ArePlaced size path (layout_size l) (layout_passes path waiting l)
placed_passes m size path waiting (work w) whole h e g = (new-placed size path waiting w e g, tt)
placed_passes m size path waiting (by rule root a b) whole h e g =
    let r = layout_size a in
    let s = layout_size b in
    let here = rule_in m size rule root path a b whole h e in
    let left : size_under (path ++ Columns s ∷ []) r ≡ size = size_under-push path (Columns s) r ∙ e in
    placed_rule size rule path r s root _ _ here (placed_passes m size (path ++ Columns s ∷ []) [] a whole h.1 left (gathering-natural size (path ++ Columns s ∷ []) r left))
    (placed_passes m size (path ++ Blocks r ∷ []) (rule_waiting rule path r s waiting) b whole h.2 (size_under-push path (Blocks r) s ∙ e) (gathering_rule size rule path r s waiting here g))

-- ---- the whole layout

-- the passes of a layout that stands for the whole
pub whole_placed : (m : ℕ) (l : Layout) → IsSize (layout_size l) → IsGoodLayout m l →
    ArePlaced (layout_size l) [] (layout_size l) (layout_passes [] [] l)
whole_placed m l whole h = placed_passes m (layout_size l) [] [] l whole h refl (gathering-natural (layout_size l) [] (layout_size l) refl)

pub limited_pass : (c : Target) (p : PlainPass) → IsPlacedPass c.size [] c.size p → IsLimitedPass c p
limited_pass c p h cs e counts fits name =
    record {
      loads = h.gathers cs 0 e counts fits;
      stores = h.scatters.stays cs 0 e counts fits;
      factors = λ d is.
          let m = (h.multiplies d is).0 cs 0 e counts fits in
          carried-push cs c.size (d.rows * d.cols) d.places (inner_of d.path (d.rows * d.cols)) (place_sum p.path (work_size p.work) 0 e) m.stays m.room m.fits;
    }

pub size_in : (c : Target) (l : Layout) → CanShareLayout c l → IsSize c.size
size_in c l h = record { low = h.some; high = h.small }
