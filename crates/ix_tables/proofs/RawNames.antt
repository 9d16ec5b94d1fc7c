-- The names that the walks over raw rows cite.
pub use Rattle.std.proofs.Common.{◌≡◌, ℕ, ◌+◌, ◌*◌, ◌^◌, ◌<◌, List, [], ◌∷◌, ◌++◌, length, length-set, get_or, set, replicate}
pub use Rattle.std.proofs.Common.{Option, Some, None, Ok, Err, refl, sym, ap, subst, ◌∙◌, lit<, arith}
pub use Rattle.std.proofs.raw_atomic.Walks.{proved_at, proved, leaves}
pub use base.Fraction.{full_share}
pub use base.Logic.{SProp, ent, sep, emp, never, id⊢}
pub use base.Fml.{Lft, GName, Fml, ftrue, fsep, fat, froom, flft}
pub use mir.Syntax.{Fn, named, w64, ty_array, ty_unit, Body}
pub use mir.MapTy.{inst_fn}
pub use mir.Val.{Val, vint, vunit, vptr, vstruct, vcons, vnil}
pub use prog.Wp.{Env, Wp, WpFn, after_seq, at_return}
pub use contract.BorrowLft.{◌⊑◌}
pub use contract.Monad.{fact, fact_i}
pub use contract.Running.{tables}
pub use types.Kit.{Item, done, ‵, raw, ◌⊛◌, some, given, later, at_ret, ◌$◌, ◌∵◌, !, qed, by, move, keep, drop, pick, learn}
pub use types.Kit.{await, use0, use1, use2, use3, split, split3, join, group, rewrite, fsplit, fsplit3, fjoin, fjoin3, fpack}
pub use types.Kit.{feq_i, feq_l, flt_l, flt_i}
pub use types.Logic.{sem}
pub use types.Part.{whole, sub, agg}
pub use types.Run.{stop, fld, from, init, load, look, addr, lit, unit_lit, of_opd, bin, size_lit, and_then, no_more}
pub use types.Run.{assigns_last, first, blocks, exec, size_word, align_word, switches_on, returns, enter}
pub use types.ByLocal.{alloc_all, pass_all, free_all, look_at, get, get_in, through, sets, sets_last, take_at, give_at, is}
pub use types.ByLocal.{get_tag, lands_as, lands_last, env}
pub use denote.Builtin.{usize, RefOf, RefMutOf}
pub use denote.Exit.{yes, no}
pub use denote.Memory.{cell_at, mem}
pub use denote.Opens.{hide, unhide}
pub use denote.Param.{layout, param}
pub use denote.Plain.{uint_vals, uint_Tells}
pub use denote.Param.Laws.{param_laws}
pub use denote.RattleType.{RattleType, owns}
pub use denote.RawPtr.{Ptr, block_ptr, in_a_block}
pub use denote.Ref.{MutBor, MutRef, ShrRef, mut_vals, shr_vals, shr_Tells}
pub use denote.Signature.{plain, types_at, mut_ref_to}
pub use denote.Steps.{nothing, heard, opens, closes}
pub use denote.Triple.Walked.{Stays, stay_dropped, stay_ref, walk_of, Goes-dropped, Goes-ref, Goes-spent_ref}
pub use Rattle.std_alloc.proofs.VecSteps.Shapes.{after}
pub use Rattle.std_alloc.proofs.RcSteps.{word, word-Good}
pub use Rattle.std_alloc.proofs.RawLayout.{as_raw, as_written}
pub use Rattle.core.proofs.mem.Param.{Good, one, lawful}
pub use denote.Triple.Call.{calls_at, calls_at_last}
pub use denote.Triple.Table.{framed}
pub use prog.Memory.{align, capped}
pub use prog.Capped.{capped_fits}
pub use base.Fml.{Incl-trans}
pub use Rattle.std.specs.Vec.Ownership.{FitsInBlock}
pub use Rattle.core.proofs.alloc.Calls.{Al, token}
pub use Rattle.core.proofs.slots.Leases.{uncapped, block_ty, block_size, block_align, args}
