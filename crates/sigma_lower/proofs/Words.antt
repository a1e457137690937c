-- The words and lemmas of other crates, and the words of this one, that several proofs cite, passed on from one place.
-- Declares nothing.
pub use Rattle.std.proofs.Common.{All, Bool, List, None, Option, Some, [], ap, append-nil, append_assoc, ap₂, arith}
pub use Rattle.std.proofs.Common.{div-lt_iff_lt-mul, drop, false, if◌then◌else◌, inl, inr, le-mul_of_pos_right, length}
pub use Rattle.std.proofs.Common.{length-append, map, mod-eq_of_lt, mod-lt, mul-le-mul_left, mul_comm, nat_le, nat_lt}
pub use Rattle.std.proofs.Common.{not, refl, reverse, slice_index, slice_index_or, subst, suc, sym, take, true, zero, ℕ}
pub use Rattle.std.proofs.Common.{◌%◌, ◌&&◌, ◌*◌, ◌++◌, ◌+◌, ◌-◌, ◌/◌, ◌<◌, ◌==◌, ◌^◌, ◌∙◌, ◌∷◌, ◌≡◌, ◌≢◌, ◌≤◌}
pub use Rattle.std.proofs.Math.Nat.{div-add-mod', div-one, mod-one, mul-div_right, mul-le-mul, mul-le-mul_right}
pub use Rattle.std.proofs.Math.Nat.{pow-succ', zero-mul}
pub use Rattle.std.proofs.Math.Pow.{pow_mono}
pub use Rattle.std.proofs.lemmas.Bool.{and_from, cases_eq, cases_lt, lt-ltb}
pub use Rattle.std.proofs.lemmas.Bool.Decides.{nat_tests}
pub use Rattle.std.proofs.lemmas.Grind.{flat_map-append}
pub use Rattle.std.proofs.lemmas.List.{length-map, map-append, map-id, reverse-append, reverse-reverse}
pub use Rattle.std.proofs.lemmas.List.Elements.{All-cons, All-head, All-nil, All-tail, All-weaker}
pub use Rattle.std.proofs.lemmas.List.FromFn.{fill_by_all}
pub use Rattle.std.proofs.lemmas.Nat.{mul-le, mul-lt, pow-add}
pub use Rattle.std.proofs.lemmas.Option.{none-some, same_Some}
pub use Rattle.std.proofs.lemmas.Simd.{map-map}
pub use Rattle.std.specs.List.{flat_map, list_all}
pub use Rattle.std.specs.Option.{option_map}
pub use Rattle.ring_mod.proofs.Inverses.{AreInverses, inverse_of_r, inverse_of_s, inverses_of}
pub use Rattle.matrix_meaning.specs.Kind.{IsPowerOfTwo, entry_of, transform}
pub use Rattle.matrix_meaning.specs.Parts.{forward_by, forward_of}
pub use Rattle.matrix_meaning.specs.Valid.{IsValid}
pub use Rattle.matrix_meaning.specs.declared.Dimensions.TheVariants.{One}
pub use Rattle.matrix_meaning.specs.declared.Kind.{Kind}
pub use Rattle.matrix_meaning.specs.declared.Kind.TheVariants.{Dft, Idft, Wht}
pub use Rattle.matrix_meaning.specs.declared.Request.{Request}
pub use Rattle.index_fn.specs.Mapping.{Always, Mapping, Paired, Same, Strided, ThomasBack, ThomasIn, ThomasOut, at}
pub use Rattle.operators.proofs.Lists.{at-list_below, column-of, factor_positive, length-list_below, list_below-same}
pub use Rattle.operators.proofs.Lists.{place_below, row-of}
pub use Rattle.operators.proofs.Places.{stride_below}
pub use Rattle.operators.proofs.PathLemmas.PathPlaces.{place-below}
pub use Rattle.operators.proofs.PathLemmas.Under.{copies_of-push, size_under-copies, size_under-push, under-push}
pub use Rattle.operators.proofs.PathLemmas.Under.{under-size}
pub use Rattle.operators.specs.Loop.{IsPermutationBelow}
pub use Rattle.operators.specs.Operator.{Operator, block, column, gather, on_blocks, on_columns, scale, stride}
pub use Rattle.operators.specs.Sum.{list_below}
pub use Rattle.operators.specs.Paths.Tensors.{AreInRange, Path, copies_of, count_of, grown, place, size_under, under}
pub use Rattle.operators.specs.declared.target.Target.{Target}
pub use Rattle.operators.specs.declared.paths.Tensor.{Tensor}
pub use Rattle.operators.specs.declared.paths.Tensor.TheVariants.{Blocks, Columns}
pub use Rattle.tree_model.proofs.PassLaws.{root_no_kernel}
pub use Rattle.tree_model.specs.Breakdown.{AllowsLeaf, Breakdown, leaf, node}
pub use Rattle.tree_model.specs.Chosen.{IsWholeTree}
pub use Rattle.tree_model.specs.Cost.{is_kernel, is_plain, node_root}
pub use Rattle.tree_model.specs.Trees.{PlainTrees, single, tensor, trees_size}
pub use Rattle.tree_model.specs.Whole.{cost_in}
pub use Rattle.tree_model.specs.WholePasses.{RequestPass, closed_by, cost_of_pass, flat_passes, loads_of_pass, pass_of}
pub use Rattle.tree_model.specs.WholePasses.{request_passes}
pub use Rattle.tree_model.specs.declared.tree.Rule.{Rule}
pub use Rattle.tree_model.specs.declared.tree.Rule.TheVariants.{Ct, Dim, Gt, Split}
pub use Rattle.perm_algebra.proofs.AffineLaws.{top-added, top-scaled}
pub use Rattle.perm_algebra.proofs.Reduced.{mods-proper}
pub use Rattle.perm_algebra.proofs.Shape.{divided-added, added-zero, turned-added}
pub use Rattle.perm_algebra.proofs.Sizes.{added-end, parts-added, parts-scaled, positive-product, proper-added}
pub use Rattle.perm_algebra.proofs.Sizes.{proper-scaled, scaled-one}
pub use Rattle.perm_algebra.specs.Affine.{Divided, IsProper, Sum, constant, added, mods, parts, quotient, reduced}
pub use Rattle.perm_algebra.specs.Affine.{remainder, scaled, simplified, top, value, variable}
pub use Rattle.perm_algebra.specs.Room.{CanAdd, HasRoomFor}
pub use Rattle.spl_ast.proofs.Vectors.{shaped_size, size_is_size}
pub use Rattle.spl_ast.specs.Formula.{Diagonal, DirectSum, Formula, Fourier, GoodThomasIn, GoodThomasOut, Hadamard}
pub use Rattle.spl_ast.specs.Formula.{Identity, Pending, Permutation, Product, Stride, TensorLeft, TensorRight}
pub use Rattle.spl_ast.specs.Formula.{Twiddles, size_of}
pub use Rattle.spl_ast.specs.Meaning.{apply}
pub use Rattle.spl_ast.specs.Shape.{IsShaped}
pub use Rattle.smp_rewrite.proofs.Dealt.{IsDealt, is_dealt}
pub use Rattle.smp_rewrite.proofs.LayoutLemmas.Layouts.{layouts_cost, layouts_have_size}
pub use Rattle.smp_rewrite.proofs.LayoutLemmas.NodeTrees.{left_fits}
pub use Rattle.smp_rewrite.proofs.Tensors.{blocks-within, copies-within, grown-one, is-one, size-within, within_all}
pub use Rattle.smp_rewrite.specs.Cut.{cut, cut_factors, factors_of, first_count, layout_smp, smp_of}
pub use Rattle.smp_rewrite.specs.Fits.{CanShareLayout, HasParts, RootHasParts, RuleHasParts}
pub use Rattle.smp_rewrite.specs.Laws.{IsDiagonal}
pub use Rattle.smp_rewrite.specs.Layout.Tree.{IsGoodLayout, IsGoodWork, Layout, by, layout_cost, layout_of}
pub use Rattle.smp_rewrite.specs.Layout.Tree.{layout_size, long_work, node_work, work}
pub use Rattle.smp_rewrite.specs.Layout.Meaning.{FitsWhole, all_on, core_on, core_size, step_on}
pub use Rattle.smp_rewrite.specs.Layout.Step.{PlainCore, PlainStep, piece, rule_steps, step, steps_of, thomas_in}
pub use Rattle.smp_rewrite.specs.Layout.Step.{thomas_out, turns, twiddles}
pub use Rattle.smp_rewrite.specs.Layout.Whole.{IsGoodWhole, closed_on, factor_by, only, whole_of}
pub use Rattle.smp_rewrite.specs.Smp.{within}
pub use Rattle.vec_rewrite.proofs.Following.{IsWide}
pub use Rattle.vec_rewrite.proofs.LaneShapes.{vec_shaped}
pub use Rattle.vec_rewrite.proofs.PlainSteps.{one_lane, one_proc}
pub use Rattle.vec_rewrite.proofs.StepFollows.{unequal, wide_from, wide_part, within-wide}
pub use Rattle.vec_rewrite.specs.Laws.{HasLanes}
pub use Rattle.vec_rewrite.specs.Turning.{kept, laned, laned_from, order_after, phase_of, settled, vec_of}
pub use Rattle.vec_rewrite.specs.Vectors.{PlainFactor, PlainVec, diagonals, factor_step, lanes, move_after, move_before}
pub use Rattle.vec_rewrite.specs.Vectors.{vec_steps}
pub use Rattle.vec_rewrite.specs.Views.{plain_vec_factor}
pub use Rattle.vec_rewrite.specs.declared.Deal.{Deal}
pub use Rattle.vec_rewrite.specs.declared.Grid.{Grid}
pub use Rattle.vec_rewrite.specs.declared.VecFactor.{VecFactor}
pub use Rattle.sigma_spl.proofs.Fitting.{le-times}
pub use Rattle.sigma_spl.proofs.Keeps.{merge_keeps, right_positive, scatter-same, under-vector, vector-fill}
pub use Rattle.sigma_spl.proofs.Natural.{ranged, sound-place_sum}
pub use Rattle.sigma_spl.proofs.Nests.{moves-no-words}
pub use Rattle.sigma_spl.proofs.Several.{several-push}
pub use Rattle.sigma_spl.proofs.Walk.{chosen}
pub use Rattle.spl_ast.proofs.Vectors.{apply_vector, block_vector, column_vector, list_vector, residue_at, vector_of}
pub use Rattle.sigma_spl.specs.Copies.{loops_of}
pub use Rattle.sigma_spl.specs.Counts.{copies_in, multiplier_cost, term_cost}
pub use Rattle.sigma_spl.specs.Good.{AreBlocks, CanNest, IsGoodTerm, IsMove, MovesVectors, NamesItems}
pub use Rattle.spl_ast.specs.Meaning.{IsVector}
pub use Rattle.sigma_spl.specs.Limits.{AreSeveral, HasSeveral}
pub use Rattle.sigma_spl.specs.Lists.{LastIs, on_last}
pub use Rattle.sigma_spl.specs.Loops.{AreFormed, AreLimitedLoops, CanScale, HasLoop, IsGoodLoop, IsLimitedLoop}
pub use Rattle.sigma_spl.specs.Loops.{IsOrdered, Looping, PlainLoop, PlainTaken, limits_in, looped, loops_in}
pub use Rattle.sigma_spl.specs.Loops.{multiplier_of, nest_of, one_nest, places_by, scaled_last, stored_last}
pub use Rattle.sigma_spl.specs.Merge.{back_of, carries_sum, is_limited, is_tile, items_in, items_out, most}
pub use Rattle.sigma_spl.specs.Merge.{passes_within, unbounded, unit_below}
pub use Rattle.sigma_spl.specs.Nest.{PlainFactors, PlainMultiplier, PlainNest, factor_at, factor_count, load_place}
pub use Rattle.sigma_spl.specs.Nest.{repeated, store_place}
pub use Rattle.sigma_spl.specs.Room.{HasRoom}
pub use Rattle.sigma_spl.specs.Shared.Costs.{pass_cost, pass_loads, work_cost}
pub use Rattle.sigma_spl.specs.Shared.Machine.{if_several, item_of, lane_step, values_of}
pub use Rattle.sigma_spl.specs.Shared.Owners.{ArePhasesShared, IsHost, IsOwner, most_actions}
pub use Rattle.sigma_spl.specs.Shared.Ready.{IsReadyMultiplier, IsReadyNest, IsSmallWork, LoadsAlike}
pub use Rattle.sigma_spl.specs.Shared.Running.{CanRunNest}
pub use Rattle.sigma_spl.specs.Shared.Targets.{is_alone, target_of}
pub use Rattle.sigma_spl.specs.Sigma.{AllCanMerge, IsGoodSigma, PlainSigma, sigma_on, terms_on}
pub use Rattle.sigma_spl.specs.Term.{product, same, term_on}
pub use Rattle.sigma_spl.specs.Trees.{IsReadyLoop}
pub use Rattle.sigma_spl.specs.Words.{AreWords, HasNumbers}
pub use Rattle.sigma_spl.specs.Work.{PlainWork, copy, horner, kernel, node_of, rows, short, tile, trees_of, vectors_of}
pub use Rattle.sigma_spl.specs.Work.{work_on, work_size}
pub use Rattle.sigma_lower.specs.Machine.{IsMachine}
pub use Rattle.sigma_lower.specs.Merged.{AllHaveLoops, CanLower, close_last, closed_phases, closing_term, sigma_of}
pub use Rattle.sigma_lower.specs.Merged.{whole_sigma}
pub use Rattle.sigma_lower.specs.Operations.{operations}
pub use Rattle.sigma_lower.specs.Order.{AllOrdered}
pub use Rattle.sigma_lower.specs.Shared.{embed, phase_term}
pub use Rattle.sigma_lower.specs.Terms.{fourier_term, hadamard_term, halvings, one_more, term_of}
pub use Rattle.sigma_lower.specs.TreeLoops.Laws.{AllCount, Counted, CountsAs, IsForwardTree, counted, counted_as}
pub use Rattle.sigma_lower.specs.TreeLoops.Laws.{counted_cost, counted_loads, has_diagonal, passes_of, tiled_passes}
pub use Rattle.sigma_lower.specs.TreeLoops.Laws.{tiles, twiddle_by, twiddle_last, whole_passes, with_twiddles, works}
pub use Rattle.sigma_lower.specs.TreeLoops.Limits.{AreLimitedPhases}
pub use Rattle.sigma_lower.specs.TreeLoops.Merge.{Merging, PlainDiagonal, PlainPass, at_last, gather_place, in_order}
pub use Rattle.sigma_lower.specs.TreeLoops.Merge.{merge_term, merged, merged_of, merged_phases, multiplied, new_pass}
pub use Rattle.sigma_lower.specs.TreeLoops.Merge.{passes_of_terms, scatter_place, scattered, through}
pub use Rattle.sigma_lower.specs.TreeLoops.Nests.{loop_of, taken_of}
pub use Rattle.sigma_lower.specs.TreeLoops.Placed.{AreCounts, ArePlacesLimited, Fits, IsCarried, IsLimitedPass, IsTame}
pub use Rattle.sigma_lower.specs.TreeLoops.Placed.{all_simplified, diagonal_places, place_sum}
pub use Rattle.sigma_lower.specs.TreeLoops.SharedPasses.Framed.{AllFramed, IsFramed, framed}
pub use Rattle.sigma_lower.specs.TreeTerms.Good.{AreCoprime, AreGood, IsGood, IsGoodCore, IsGoodPiece}
pub use Rattle.vec_rewrite.specs.Laws.{IsVecOf}
pub use Rattle.sigma_lower.specs.TreeTerms.Root.{in_phases, left_core, left_path, left_terms, lines_dealt, lines_moved}
pub use Rattle.sigma_lower.specs.TreeTerms.Root.{right_path, right_terms, root_terms, tile_path, tiled_after}
pub use Rattle.sigma_lower.specs.TreeTerms.Root.{tiled_before, turned_in, vectors_grouped, vectors_turned, whole_path}
pub use Rattle.sigma_lower.specs.TreeTerms.Term.{PlainTerm, after_core, diag, factor_term, gath, lowered, lowered_core}
pub use Rattle.sigma_lower.specs.TreeTerms.Term.{lowered_of, nest, scat, terms_in}
pub use Rattle.sigma_lower.specs.TreeTerms.Wrapped.{inner_of, unit_of, wrapped}
pub use Rattle.sigma_lower.specs.Trees.{core_term}
pub use Rattle.kernel_gen.proofs.NodeCosts.{kernel-short}
pub use Rattle.kernel_gen.proofs.NodeTrees.{left_tree, right_tree}
pub use Rattle.kernel_gen.specs.Nodes.{IsNodeTree}
