-- The identities of lanes and tiles in the blocks of all processors, as the factors of a formula for lanes.
use Rattle.std.proofs.Common.{◌≡◌, ℕ, ◌*◌, arith, refl, sym, ap, ◌∙◌, List, [], ◌∷◌}
use Rattle.std.specs.Prelude.{map, slice_index}
use Rattle.operators.specs.Identities.{HasSize, turn}
use Rattle.operators.specs.Operator.{Operator, on_columns, on_blocks}
use Rattle.operators.specs.Sum.{list_below}
use Rattle.operators.proofs.Blocks.{tensor_of_product, columns_in_columns, turn_in_blocks}
use Rattle.operators.proofs.Lists.{length-list_below, on_blocks-same}
use Rattle.smp_rewrite.specs.Smp.{within}
use Rattle.smp_rewrite.proofs.Cores.{core-reads, core-gives}
use Rattle.smp_rewrite.proofs.Tensors.{under-within_all, reads-one_under}
use Rattle.smp_rewrite.specs.Layout.Meaning.{step_on, all_on}
use Rattle.smp_rewrite.specs.Layout.Step.{turns, step}
use Rattle.operators.specs.declared.paths.Tensor.TheVariants.{Blocks, Columns}
use Rattle.vec_rewrite.specs.declared.Deal.{Deal}
use Rattle.vec_rewrite.specs.declared.Grid.{Grid}
use Rattle.vec_rewrite.specs.Turning.{parted, into_groups}
use Rattle.vec_rewrite.specs.Vectors.{factor_step}
use Rattle.vec_rewrite.proofs.Blocks.{blocks_of_columns, resized, copied-blocks, into_groups-parted, rows_by_lanes}
use Rattle.vec_rewrite.proofs.Blocks.{tiles_then_vectors, vectors_then_tiles}

-- a product in each block
blocks_of_product : (k n m : ℕ) (a b : Operator) (x : List ℕ) → m ≡ n → HasSize m b →
    on_blocks k n (λ y. a (b y)) x ≡ on_blocks k n a (on_blocks k m b x)
blocks_of_product k n m a b x e size =
    (tensor_of_product n k a b x (λ y. size y ∙ e)).1 ∙ ap (on_blocks k n a) (resized k n m b x (sym e))

-- rows of s words out of groups of v rows, and into them, in each of p blocks
abbrev pub apart : ℕ → ℕ → ℕ → ℕ → Operator
apart p q v s = on_blocks p (q * (v * s)) (on_blocks q (v * s) (turn v s))

abbrev pub together : ℕ → ℕ → ℕ → ℕ → Operator
together p q v s = on_blocks p (q * (v * s)) (on_blocks q (v * s) (turn s v))

-- ---- what the factors do

pub parted-on : (m : ℕ) (d : Deal) (g : Grid) (x : List ℕ) →
    all_on m (map (factor_step d.procs d.lanes) (parted d g)) x ≡ apart d.procs g.groups d.lanes (g.tiles * d.lanes) x
parted-on m d g x =
    let p = d.procs in
    let v = d.lanes in
    let q = g.groups in
    let t = g.tiles in
    let n = q * (v * (t * v)) in
    let tiled = on_blocks q (t * (v * v)) (on_blocks t (v * v) (turn v v)) in
    let vectors = on_blocks q (v * t) (turn v t) in
    let between = on_blocks p (q * (t * (v * v))) tiled x in
    let wide : n ≡ q * (v * t) * v = omega arith in
    ap (step_on m (step (within (Columns v) (within (Blocks p) (within (Blocks q) []))) (turns v t)))
    (under-within_all (Blocks p ∷ Blocks q ∷ Blocks t ∷ []) [] (v * v) (turn v v) x (core-gives m (turns v v)) (core-reads m (turns v v)))
    ∙ under-within_all (Columns v ∷ Blocks p ∷ Blocks q ∷ []) [] (v * t) (turn v t) between (core-gives m (turns v t)) (core-reads m (turns v t))
    ∙ sym (on_blocks-same p n _ _ x (λ y. tiles_then_vectors q v t y)
    ∙ blocks_of_product p n (q * (t * (v * v))) (on_columns (q * (v * t)) v vectors) tiled x (omega arith) (λ y. length-list_below _ _)
    ∙ resized p n (q * (v * t) * v) (on_columns (q * (v * t)) v vectors) between wide
    ∙ blocks_of_columns p (q * (v * t)) v vectors between)

pub into_groups-on : (m : ℕ) (d : Deal) (g : Grid) (x : List ℕ) →
    all_on m (map (factor_step d.procs d.lanes) (into_groups d g)) x
    ≡ together d.procs g.groups d.lanes (g.tiles * d.lanes) x
into_groups-on m d g x =
    let p = d.procs in
    let v = d.lanes in
    let q = g.groups in
    let t = g.tiles in
    let n = q * (v * (t * v)) in
    let tiled = on_blocks q (t * (v * v)) (on_blocks t (v * v) (turn v v)) in
    let vectors = on_blocks q (t * v) (turn t v) in
    let between = on_columns (p * (q * (t * v))) v (on_blocks p (q * (t * v)) vectors) x in
    let wide : q * (t * v) * v ≡ n = omega arith in
    let tall : n ≡ q * (t * (v * v)) = omega arith in
    ap (step_on m (step (within (Blocks p) (within (Blocks q) (within (Blocks t) []))) (turns v v)))
    (under-within_all (Columns v ∷ Blocks p ∷ Blocks q ∷ []) [] (t * v) (turn t v) x (core-gives m (turns t v)) (core-reads m (turns t v)))
    ∙ under-within_all (Blocks p ∷ Blocks q ∷ Blocks t ∷ []) [] (v * v) (turn v v) between (core-gives m (turns v v)) (core-reads m (turns v v))
    ∙ sym (on_blocks-same p n _ _ x (λ y. vectors_then_tiles q v t y)
    ∙ blocks_of_product p n (q * (t * v) * v) tiled (on_columns (q * (t * v)) v vectors) x wide (λ y. length-list_below _ _)
    ∙ resized p n (q * (t * (v * v))) tiled (on_blocks p (q * (t * v) * v) (on_columns (q * (t * v)) v vectors) x) tall
    ∙ ap (on_blocks p (q * (t * (v * v))) tiled) (blocks_of_columns p (q * (t * v)) v vectors x))

-- ---- a matrix on rows, on all lanes

abbrev pub on_lanes : ℕ → ℕ → ℕ → ℕ → Operator → Operator
on_lanes p q v s a = on_blocks p (q * s * v) (on_columns (q * s) v (on_blocks q s a))

pub rows-on_lanes : (p q v s : ℕ) (a : Operator) (x : List ℕ) →
    on_blocks p (q * v * s) (on_blocks (q * v) s a) x ≡ apart p q v s (on_lanes p q v s a (together p q v s x))
rows-on_lanes p q v s a x =
    let n = q * (v * s) in
    let whole : q * v * s ≡ n = omega arith in
    let wide : q * s * v ≡ n = omega arith in
    let columns = on_columns (q * s) v (on_blocks q s a) in
    resized p (q * v * s) n (on_blocks (q * v) s a) x whole
    ∙ on_blocks-same p n _ _ x (λ y. rows_by_lanes q v s a y)
    ∙ blocks_of_product p n n (on_blocks q (v * s) (turn v s)) (λ y. columns (on_blocks q (v * s) (turn s v) y)) x refl (λ y. length-list_below _ _ ∙ wide)
    ∙ ap (on_blocks p n (on_blocks q (v * s) (turn v s)))
    (blocks_of_product p n n columns (on_blocks q (v * s) (turn s v)) x refl (λ y. length-list_below _ _)
    ∙ resized p n (q * s * v) columns (together p q v s x) (sym wide))

-- a matrix on all lanes takes no notice of rows that were parted and brought into groups again
pub into_groups-again : (p q v s : ℕ) (a : Operator) (x : List ℕ) →
    on_lanes p q v s a (together p q v s (apart p q v s x)) ≡ on_lanes p q v s a x
into_groups-again p q v s a x =
    let n = q * (v * s) in
    let m = q * s * v in
    let wide : p * n ≡ p * m = omega arith in
    ap (on_lanes p q v s a)
    (sym (blocks_of_product p n n (on_blocks q (v * s) (turn s v)) (on_blocks q (v * s) (turn v s)) x refl (λ y. length-list_below _ _))
    ∙ on_blocks-same p n _ _ x (λ y. into_groups-parted q v s y)
    ∙ copied-blocks p n x
    ∙ ap (λ k. list_below k (slice_index x)) wide)
    ∙ reads-one_under (Blocks p) m (on_columns (q * s) v (on_blocks q s a)) x

-- the root's permutation on all lanes
pub turn-on_lanes : (p q v s : ℕ) (x : List ℕ) → on_blocks p (q * v * s) (turn (q * v) s) x
    ≡ apart p q v s (on_blocks p (q * s * v) (on_columns (q * s) v (turn q s)) x)
turn-on_lanes p q v s x =
    let n = q * (v * s) in
    let whole : q * v * s ≡ n = omega arith in
    let wide : q * s * v ≡ n = omega arith in
    resized p (q * v * s) n (turn (q * v) s) x whole
    ∙ on_blocks-same p n _ _ x (λ y. turn_in_blocks q v s y)
    ∙ blocks_of_product p n (q * s * v) (on_blocks q (v * s) (turn v s)) (on_columns (q * s) v (turn q s)) x wide (λ y. length-list_below _ _)

-- columns on all lanes
pub columns-on_lanes : (p m w v : ℕ) (a : Operator) (x : List ℕ) →
    on_blocks p (m * (w * v)) (on_columns m (w * v) a) x ≡ on_blocks p (m * w * v)
    (on_columns (m * w) v (on_columns m w a)) x
columns-on_lanes p m w v a x =
    let wide : m * (w * v) ≡ m * w * v = omega arith in
    resized p (m * (w * v)) (m * w * v) (on_columns m (w * v) a) x wide ∙ on_blocks-same p (m * w * v) _ _ x (λ y. columns_in_columns m w v a y)
