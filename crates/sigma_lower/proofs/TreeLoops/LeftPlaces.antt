-- The places of the left part of a shared root: those of the part alone, in the copies that processors, lanes and loops name.
use Rattle.sigma_lower.proofs.Words.{◌≡◌, ℕ, ◌+◌, ◌*◌, ◌/◌, ◌<◌, ◌≤◌, arith, refl, sym, ap, ap₂, ◌∙◌, List, [], ◌∷◌}
use Rattle.sigma_lower.proofs.Words.{◌++◌, length, if◌then◌else◌, subst, mul_comm, ◌==◌, map, Option, None, Some}
use Rattle.sigma_lower.proofs.Words.{option_map, Mapping, Target, AreSeveral, Sum, constant, variable, scaled, added}
use Rattle.sigma_lower.proofs.Words.{Divided, simplified, HasRoomFor, divided-added, added-end, scaled-one, same_Some}
use Rattle.sigma_lower.proofs.Words.{PlainDiagonal, PlainPass, Fits, IsCarried, place_sum, AreCounts, all_simplified}
use Rattle.sigma_lower.proofs.Words.{diagonal_places, IsLimitedPass, left_path, work_size, inner_of, Blocks, Columns}
use Rattle.sigma_lower.proofs.Words.{Path, grown, size_under, Always}
use Rattle.sigma_lower.proofs.TreeLoops.InCopies.{placed, AreCopies, placed-fits}
use Rattle.sigma_lower.proofs.TreeLoops.LineMoves.{LeadsTo, AreThree, leads-none, leads-step, leads-join, leads-same}
use Rattle.sigma_lower.proofs.TreeLoops.LineMoves.{dealt-leads}
use Rattle.sigma_lower.proofs.TreeLoops.Moved.{placed-columns}
use Rattle.sigma_lower.proofs.TreeLoops.PlaceLimits.{IsMultiplied, IsPlacedPass}
use Rattle.sigma_lower.proofs.TreeLoops.PlaceRoom.{room-paired}
use Rattle.sigma_lower.proofs.TreeLoops.PlaceSums.{parts-fit, size-positive}
use Rattle.sigma_lower.proofs.TreeLoops.RightPlaces.{wide-all}
use Rattle.sigma_lower.proofs.TreeLoops.RootPasses.{on_all, if_dealt, left_diagonal, left_pass}
use Rattle.sigma_lower.proofs.TreeLoops.RootShares.{AreShares, columns_some, tiles_are, tiles_fill, dealt_small}
use Rattle.sigma_lower.proofs.TreeLoops.RootShares.{columns_high, rows_high}
use Rattle.sigma_lower.proofs.TreeLoops.Staying.{StaysIn, stays-begin, carried-end, carried-push}
use Rattle.sigma_lower.proofs.TreeLoops.WithinPlaces.{size-all, simplified-within, room-within, natural-placed}
use Rattle.sigma_lower.proofs.TreeLoops.WithinPlaces.{natural-copies}

-- ---- a longer path

pub size_under-append : (path more : Path) (n : ℕ) → size_under (path ++ more) n ≡ size_under path (size_under more n)
size_under-append [] more n = refl
size_under-append (t ∷ path) more n = ap (grown t) (size_under-append path more n)

pub place_sum-append : (path more : Path) (n d : ℕ) (e : Sum) →
    place_sum (path ++ more) n d e ≡ place_sum path (size_under more n) d (place_sum more n (d + length path) e)
place_sum-append [] more n d e = ap (λ i. place_sum more n i e) (omega arith)
place_sum-append (Blocks c ∷ path) more n d e =
    ap₂ (λ size g. added (scaled size (variable 1 d (constant 0))) g) (size_under-append path more n)
    (place_sum-append path more n (d + 1) e ∙ ap (λ i. place_sum path (size_under more n) (d + 1) (place_sum more n i e)) (omega arith))
place_sum-append (Columns c ∷ path) more n d e =
    ap (λ g. added (scaled c g) (variable 1 d (constant 0))) (place_sum-append path more n (d + 1) e ∙ ap (λ i. place_sum path (size_under more n) (d + 1) (place_sum more n i e)) (omega arith))

pub counts-append : (path more : Path) (n d : ℕ) (cs : ℕ → ℕ) → AreCounts (path ++ more) n d cs →
    AreCounts path (size_under more n) d cs × AreCounts more n (d + length path) cs
counts-append [] more n d cs h = (size-positive more n d cs h, subst (λ i. AreCounts more n i cs) (omega arith) h)
counts-append (Blocks c ∷ path) more n d cs h =
    let inner = counts-append path more n (d + 1) cs h.2 in ((h.0, h.1, inner.0), subst (λ i. AreCounts more n i cs) (omega arith) inner.1)
counts-append (Columns c ∷ path) more n d cs h =
    let inner = counts-append path more n (d + 1) cs h.2 in ((h.0, h.1, inner.0), subst (λ i. AreCounts more n i cs) (omega arith) inner.1)

-- ---- diagonals

pub mapped-some : {A B : Type 0} (f : A → B) (o : Option A) (x : B) → option_map f o ≡ Some x →
    (d : A) × (o ≡ Some d) × (f d ≡ x)
mapped-some f None x e = absurd (cc)
mapped-some f (Some d) x e = (d, refl, same_Some (f d) x e)

-- ---- a pass of the part alone, in all copies

module _ (size p v m s : ℕ) (h : AreShares size p v m s) where
  abbrev three : Path
  three = Blocks p ∷ Columns v ∷ Columns (s / p / v) ∷ []

  abbrev whole : Path
  whole = Columns v ∷ Columns (s / v) ∷ []

  pub left_whole : size_under three m ≡ size
  left_whole = let columns : m * s ≡ m * (p * (v * (s / p / v))) = ap (λ k. m * k) h.columns in omega (arith, h.product, columns)

  pub left_fills : size_under (left_path p v s) m ≡ size
  left_fills = size-all three m ∙ left_whole

  pub left_wide : AreSeveral (left_path p v s)
  left_wide = wide-all three (h.procs, (h.lanes, (columns_some size p v m s h, tt)))

  whole_fills : size_under whole m ≡ size
  whole_fills = let columns : m * (v * (s / v)) ≡ m * s = ap (λ k. m * k) (tiles_fill size p v m s h) in omega (arith, h.product, columns)

  -- the sums of the lane, and of the processor and the loop together
  pub record Spread (cs : ℕ → ℕ) (d : ℕ) : Type 0 where
    pub lane : Sum
    pub column : Sum
    pub copies : AreCopies whole (lane ∷ column ∷ []) cs
    pub dealt : (k : ℕ) (e : Sum) → k ≡ p * m → Fits m e cs →
        LeadsTo cs size (if_dealt k p v m s) (place_sum (left_path p v s) m d e) (placed whole m (lane ∷ column ∷ []) e)

  -- of a processor, a lane and a loop by these sums
  abbrev pub spread-by : (cs : ℕ → ℕ) (d : ℕ) (q l j : Sum) → AreCopies three (q ∷ l ∷ j ∷ []) cs →
      ((e : Sum) → place_sum (left_path p v s) m d e ≡ placed three m (q ∷ l ∷ j ∷ []) e) → Spread cs d
  spread-by cs d q l j named places =
      let k : ℕ = s / p / v in
      let both : AreThree cs p v k q l j = record { processor = named.0; lane = named.1.0; other = named.1.1.0 } in
      let column : Sum = added (scaled k q) j in
      let fits : Fits (s / v) column cs =
      subst (λ i. Fits i column cs) (sym (tiles_are size p v m s h ∙ mul_comm k p))
      (parts-fit p k q j cs (columns_some size p v m s h) named.0 named.1.1.0) in
      record {
        lane = l;
        column = column;
        copies = (named.1.0, (fits, tt));
        dealt = λ i e is inside.
            leads-same cs size (if_dealt i p v m s) (place_sum (left_path p v s) m d e) _ _ (places e)
            (subst (LeadsTo cs size (if_dealt i p v m s) (placed three m (q ∷ l ∷ j ∷ []) e))
            (ap (λ g. added (scaled v g) l)
            (placed-columns k p [] m j q [] e
            ∙ ap (λ c. placed (Columns c ∷ []) m (column ∷ []) e) (sym (tiles_are size p v m s h))))
            (dealt-leads p v k m size i q l j e cs both inside is left_whole h.whole.high
            (dealt_small size p v m s h)));
      }

  pub spread : (cs : ℕ → ℕ) (d : ℕ) → AreCounts (left_path p v s) m d cs → Spread cs d
  spread cs d counts =
      let d1 : ℕ = if p == 1 then d else d + 1 in
      let d2 : ℕ = if v == 1 then d1 else d1 + 1 in
      spread-by cs d (if p == 1 then constant 0 else variable 1 d (constant 0))
      (if v == 1 then constant 0 else variable 1 d1 (constant 0))
      (if s / p / v == 1 then constant 0 else variable 1 d2 (constant 0)) (natural-copies three m d cs counts)
      (natural-placed three m d)

  -- what a permutation of the m words does to the places of all copies
  pub mapped-leads : (cs : ℕ → ℕ) (us : List Sum) (fs : List Mapping) (e : Sum) → AreCopies whole us cs →
      StaysIn cs m fs e → LeadsTo cs size (map (on_all v m s) fs) (placed whole m us e)
      (placed whole m us (all_simplified cs fs e))
  mapped-leads cs us [] e copies stays = leads-none cs size (placed whole m us e) (placed whole m us e) (subst (λ n. Fits n (placed whole m us e) cs) whole_fills (placed-fits whole m us e cs copies stays)) refl
  mapped-leads cs us (f ∷ fs) e copies stays =
      let here = placed whole m us e in
      let made : Fits m (simplified cs f e) cs = stays-begin cs m fs (simplified cs f e) stays.2 in
      leads-step cs size (on_all v m s f) (map (on_all v m s) fs) here here (placed whole m us (simplified cs f e)) _ refl
      (subst (λ n. Fits n here cs) whole_fills (placed-fits whole m us e cs copies stays.0))
      (room-within whole m us f e cs copies stays.0 made (omega (arith, whole_fills, h.whole.high)) stays.1)
      (simplified-within whole m us f e cs copies stays.0)
      (mapped-leads cs us fs (simplified cs f e) copies stays.2)

  -- functions of the part alone, at the natural place under its path and the root's
  pub part-leads : (cs : ℕ → ℕ) (path : Path) (fs : List Mapping) (n k : ℕ) (e : Sum) (sp : Spread cs 0) →
      size_under path n ≡ m → k ≡ p * m → StaysIn cs m fs (place_sum path n (0 + length (left_path p v s)) e) →
      LeadsTo cs size (if_dealt k p v m s ++ map (on_all v m s) fs) (place_sum (left_path p v s ++ path) n 0 e)
      (placed whole m (sp.lane ∷ sp.column ∷ []) (all_simplified cs fs
      (place_sum path n (0 + length (left_path p v s)) e)))
  part-leads cs path fs n k e sp fills is stays =
      let inner = place_sum path n (0 + length (left_path p v s)) e in
      let same : place_sum (left_path p v s ++ path) n 0 e ≡ place_sum (left_path p v s) m 0 inner =
      place_sum-append (left_path p v s) path n 0 e ∙ ap (λ i. place_sum (left_path p v s) i 0 inner) fills in
      leads-same cs size (if_dealt k p v m s ++ map (on_all v m s) fs) _ _ _ same
      (leads-join cs size (if_dealt k p v m s) (map (on_all v m s) fs) _ _ _ (sp.dealt k inner is (stays-begin cs m fs inner stays)) (mapped-leads cs (sp.lane ∷ sp.column ∷ []) fs inner sp.copies stays))

  -- ---- within the limits

  -- the place in all copies, by the number of the copy
  record IsNumbered (cs : ℕ → ℕ) (lane column y : Sum) : Type 0 where
    same : placed whole m (lane ∷ column ∷ []) y ≡ added (scaled s y) (added (scaled v column) lane)
    fits : Fits s (added (scaled v column) lane) cs

  numbered : (cs : ℕ → ℕ) (lane column y : Sum) → Fits v lane cs → Fits (s / v) column cs → IsNumbered cs lane column y
  numbered cs lane column y low high =
      record {
        same = placed-columns v (s / v) [] m lane column [] y
            ∙ ap (λ c. added (scaled c y) (added (scaled v column) lane)) (tiles_fill size p v m s h);
        fits = subst (λ i. Fits i (added (scaled v column) lane) cs) (mul_comm (s / v) v ∙ tiles_fill size p v m s h)
            (parts-fit (s / v) v column lane cs h.lanes high low);
      }

  -- the item of its copy, at the place in all copies
  pub item-whole : (cs : ℕ → ℕ) (lane column : Sum) (path : Path) (n : ℕ) (y : Sum) → Fits v lane cs →
      Fits (s / v) column cs →
      simplified cs (inner_of (Columns s ∷ path) n) (placed whole m (lane ∷ column ∷ []) y)
      ≡ simplified cs (inner_of path n) y
  item-whole cs lane column path n y low high =
      let is = numbered cs lane column y low high in
      let some : 0 < s = omega (arith, h.right) in
      ap (simplified cs (inner_of (Columns s ∷ path) n)) is.same
      ∙ ap (λ (d : Divided). added (scaled 1 (simplified cs (inner_of path n) d.quot)) (constant 0))
      (divided-added s y (added (scaled v column) lane) cs some is.fits.proper is.fits.small)
      ∙ added-end (scaled 1 (simplified cs (inner_of path n) y))
      ∙ scaled-one (simplified cs (inner_of path n) y)

  room-whole : (cs : ℕ → ℕ) (sp : Spread cs 0) (path : Path) (n : ℕ) (y : Sum) → Fits m y cs → n ≤ 1048576 →
      HasRoomFor cs (inner_of path n) y → Fits n (simplified cs (inner_of path n) y) cs →
      HasRoomFor cs (inner_of (Columns s ∷ path) n) (placed whole m (sp.lane ∷ sp.column ∷ []) y)
  room-whole cs sp path n y fits low room made =
      let z : Sum = simplified cs (inner_of path n) y in
      let is = numbered cs sp.lane sp.column y sp.copies.0 sp.copies.1.0 in
      let high : s ≤ 1048576 = omega (arith, columns_high size p v m s h) in
      subst (HasRoomFor cs (inner_of (Columns s ∷ path) n)) (sym is.same)
      (room-paired (inner_of path n) (Always 0) s 1 y (added (scaled v sp.column) sp.lane) z (constant 0) cs
      (omega (arith, h.right)) (omega arith) is.fits.proper is.fits.small room tt refl refl made.proper
      (omega (arith, made.small)))

  -- the places of a diagonal within the part are those in all copies
  left_multiplied : (cs : ℕ → ℕ) (sp : Spread cs 0) (q : PlainPass) (e : Sum) (o : PlainDiagonal) →
      size_under q.path (work_size q.work) ≡ m → IsMultiplied cs m q o (0 + length (left_path p v s)) e →
      o.rows * o.cols ≤ m →
      IsCarried cs size (o.rows * o.cols) (diagonal_places (left_diagonal p v m s o))
      (place_sum (left_path p v s ++ q.path) (work_size q.work) 0 e)
  left_multiplied cs sp q e o fills part within =
      let n : ℕ = work_size q.work in
      let rc : ℕ = o.rows * o.cols in
      let from : Sum = place_sum (left_path p v s ++ q.path) n 0 e in
      let inner : Sum = place_sum q.path n (0 + length (left_path p v s)) e in
      let places : List Mapping = if_dealt (m * p) p v m s ++ map (on_all v m s) o.places in
      let item : Mapping = inner_of (Columns s ∷ o.path) rc in
      let lead = part-leads cs q.path o.places n (m * p) e sp fills (mul_comm m p) part.stays in
      let there : Sum = all_simplified cs o.places inner in
      let same = item-whole cs sp.lane sp.column o.path rc there sp.copies.0 sp.copies.1.0 in
      let room =
      room-whole cs sp o.path rc there (carried-end cs m m o.places inner part.stays)
      (omega (arith, within, rows_high size p v m s h)) part.room part.fits in
      carried-push cs size rc places item from lead.stays (subst (HasRoomFor cs item) (sym lead.is) room)
      (subst (λ g. Fits rc g cs) (sym (ap (simplified cs item) lead.is ∙ same)) part.fits)

  -- a pass of the part alone within the limits is so in all copies
  pub left_limited : (c : Target) (q : PlainPass) → c.size ≡ size → size_under q.path (work_size q.work) ≡ m →
      IsPlacedPass m [] m q → IsLimitedPass c (left_pass p v m s q)
  left_limited c q sized fills placed_part cs e counts fits name =
      let n : ℕ = work_size q.work in
      let d : ℕ = 0 + length (left_path p v s) in
      let split = counts-append (left_path p v s) q.path n 0 cs counts in
      let sp : Spread cs 0 = spread cs 0 (subst (λ i. AreCounts (left_path p v s) i 0 cs) fills split.0) in
      let from : Sum = place_sum (left_path p v s ++ q.path) n 0 e in
      let befores : List Mapping = if_dealt (p * m) p v m s ++ map (on_all v m s) q.befores in
      let afters : List Mapping = if_dealt (m * p) p v m s ++ map (on_all v m s) q.afters in
      record {
        loads = subst (λ i. IsCarried cs i i befores from) (sym sized) (part-leads cs q.path q.befores n (p * m) e sp fills refl (placed_part.gathers cs d e split.1 fits)).stays;
        stores = subst (λ i. IsCarried cs i i afters from) (sym sized) (part-leads cs q.path q.afters n (m * p) e sp fills (mul_comm m p) (placed_part.scatters.stays cs d e split.1 fits)).stays;
        factors = λ o is.
            let found = mapped-some (left_diagonal p v m s) q.diagonal o is in
            let part = placed_part.multiplies found.0 found.1 in
            subst (λ x. IsCarried cs c.size (x.rows * x.cols) (diagonal_places x) from) found.2
            (subst (λ i. IsCarried cs i (found.0.rows * found.0.cols) (diagonal_places (left_diagonal p v m s found.0)) from) (sym sized) (left_multiplied cs sp q e found.0 fills (part.0 cs d e split.1 fits) part.1));
      }
