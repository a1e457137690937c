-- New nests, and where their items stand.
use Rattle.std.specs.Prelude.{ℕ, List, [], ◌∷◌, length, map}
use Rattle.index_fn.specs.Mapping.{Mapping, at}
use Rattle.operators.specs.Sum.{list_below}
use Rattle.sigma_spl.specs.Merge.{items_in, items_out, new_nest, place_sum}
use Rattle.sigma_spl.specs.Nest.{PlainNest}
use Rattle.sigma_spl.specs.Work.{PlainWork, copy, work_size}
use Rattle.perm_algebra.specs.Affine.{Sum, constant}
use Rattle.operators.specs.Paths.Tensors.{Path}
use Rattle.loop_nests.specs.Placed.{AllCanPlace}

-- where the items of some work are loaded from, and where they are stored
abbrev pub loads_under : Path → PlainWork → List Sum
loads_under path w = map (place_sum path (work_size w) 0) (items_in w (length path))

abbrev pub stores_under : Path → PlainWork → List Sum
stores_under path w = map (place_sum path (work_size w) 0) (items_out w (length path))

-- copies of some work, which load and store where their tensors put them
abbrev pub natural_nest : Path → PlainWork → PlainNest
natural_nest path w = new_nest path w (items_in w (length path))

-- copies that take their items from these places of the copy
abbrev pub moved_nest : Path → List ℕ → PlainNest
moved_nest path ks = new_nest path (copy (length ks)) (map constant ks)

-- each of these places can be made with words
abbrev pub CanMove : Path → List ℕ → Type 0
CanMove path ks = AllCanPlace path (length ks) (map constant ks)

-- a gather as a copy pass, word by word
abbrev pub copied_by_word : ℕ → Mapping → List PlainNest
copied_by_word n f = moved_nest [] (list_below n (at f)) ∷ []
