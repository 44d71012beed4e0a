-- `into_loose` tests the pointer, and gives back what the handle owns.
use Rattle.std.proofs.Common.{List, [], ◌∷◌, ◌++◌, refl, sym, ◌∙◌, subst, lit<}
use mir.Val.{Val, vptr, vnull, vcons, vnil}
use base.Logic.{SProp, ent, emp, id⊢}
use base.Fml.{ftrue, fsep}
use prog.Wp.{WpFn}
use types.Kit.{‵, raw, given, at_ret, ◌⊛◌, ◌$◌, ◌∵◌, !, qed, done, move, drop, use0, use1, learn, join, split, fsplit, fjoin, suffices}
use types.Part.{whole, sub, agg}
use types.Match.{live}
use types.Run.{stop, fld, no_more, and_then, lit, bin, of_opd, first, branches, exec, returns, enter}
use types.ByLocal.{alloc_all, pass_all, free_all, look_at, get, get_in, sets, sets_last, env}
use contract.Running.{tables}
use denote.Exit.{yes}
use denote.RattleType.{RattleType}
use denote.RawPtr.{block_ptr, ptr_val, Testable, tests_null}
use denote.Param.{layout}
use denote.Signature.{plain, type_at}
use denote.Steps.{nothing}
use denote.Triple.Walked.{says, Stays, stay_dropped, walk_of, ends_at, Goes-dropped}
use Rattle.std.specs.declared.option.Option.TheVariants.{None, Some}
use Rattle.std.specs.Box.Ownership.{box_owns}
use Rattle.std.proofs.raw_atomic.Walks.{proved_at}
use Rattle.std.proofs.alloc.Shapes.{after}
use Rattle.std.proofs.cell.Inside.{Good}
use Rattle.std.proofs.option.Made.{Some-of, none_of}
use Rattle.std.proofs.ResultValues.{and_tt}
use Rattle.std.proofs.alloc.Global.TheLaws as heap_laws
use Rattle.std.specs.contracts.impls.GlobalAllocator.TheImpl.{ghosts}
use Rattle.loose_box.proofs.Values.{both, Loose, loose_good, loose_in}
use Rattle.titan_c.specs.Owned.{the_row as K}
use Rattle.titan_c.proofs.Held.{Z, H, good_null, held_out, either_held, tested}
use Rattle.titan_c.specs.contracts.handle.Handle.into_loose as F
use Rattle.titan_c.specs.contracts.handle.Handle.into_loose.Key.{name as #self}
use Rattle.titan_c.proofs.handle.Handle.into_loose.Statement.{statement}
use Rattle.titan_c.proofs.handle.Handle.into_loose.Code as code

abbrev To : RattleType
To = Loose K Z heap_laws.the_row_laws ghosts

abbrev stayed : Stays (F.ended).signature.params (F.ended).kept
stayed = (stay_dropped (plain (λ _. H)) yes, tt)

pub into_loose_spec : {M : Type 1} → statement M
into_loose_spec 𝓤 𝓛 𝓜 𝓡 wired =
    let c = F.clauses 𝓛 𝓜.mem 𝓡.returns in let 𝓣 = tables 𝓤 𝓛.H 𝓜 𝓡 𝓡.env in let fn = code.function in
    proved_at 𝓛 F.ended stayed c 𝓜 𝓡 (Goes-dropped 𝓛 0 (plain (λ _. H)) yes (λ κs x f. refl), tt) #self fn (code.unfolded 𝓤 𝓛.H 𝓜 𝓡 wired) (λ z are.
    let Post : Val → SProp 𝓤 = (walk_of 𝓛 F.ended stayed c).post z in let Run : List Val → SProp 𝓤 = λ ws. WpFn 𝓤 𝓛.H 𝓣.C 𝓣.Λ fn ws Post in
    let Out : RattleType = type_at (F.signature).result tt in
    let v = z.0.3.0 in let a = v.alloc in let p = v.at in
    qed 𝓛 ((‵ ftrue ⊛ ‵ (fsep (H.own_val v z.0.4.0) ftrue)) ∷ raw (emp 𝓤) ∷ []) ∵ split ! $ drop ! $ fsplit ! $
    held_out ! v z.0.4.0 (λ h ws fits.
    either_held ! a p v.kept
    (λ is_none is_null.
    let w : Val = both vnull h in let typed = good_null h fits in
    suffices ! (Run (w ∷ [])) (subst (λ (us : List Val). ent 𝓤 (Run (w ∷ [])) (Run us)) (sym ((λ i. ws i ++ []) ∙ (λ i. both (ptr_val (is_null i)) h ∷ []))) (id⊢ 𝓤 (Run (w ∷ [])))) $
    drop ! $ drop ! $ drop ! $
    enter ! 𝓣.C 𝓣.Λ fn (w ∷ []) Post $ alloc_all ! (λ l. pass_all ! refl (typed, tt) $ let Ev = env fn.locals l in
    sets ! (of_opd ! (get_in ! (fld ! refl (stop !)) (sub ! 0 refl (whole !)))) refl (tt, record { fits = lit< tt }) $ sets ! (of_opd ! (get_in ! (fld ! refl (stop !)) (sub ! 1 refl (whole !)))) refl fits $
    sets ! (bin ! (get ! refl) (lit ! tt) tt) refl (tt, tt) $ first ! $ branches ! (get ! refl)
    (λ _. sets_last ! (agg ! (and_then ! (lit ! tt) (no_more !))) refl (tt, (record { fits = lit< tt }, tt)) $ exec ! 𝓣.C 𝓣.Λ Ev (after 4 fn.body) (at_ret Ev Post) $
    sets ! (of_opd ! (get ! refl)) refl (tt, (record { fits = lit< tt }, tt)) $
    returns ! (look_at ! 0 refl) $ free_all ! refl $
    use0 𝓛 (‵ (Out.own_val None (live 0 vnil ∷ []))) (none_of 𝓛 To) $
    suffices ! _ (ends_at 𝓛 F.ended stayed c z (live 0 vnil) None (tt, tt) (tt, tt)) $ says ! is_none $
    nothing ! $ nothing ! $ fjoin ! $ join ! $ nothing ! $ join ! $ done !) (λ wrong. absurd wrong)))
    (λ b o x is_some is_block.
    use1 𝓛 (given (Testable (block_ptr b o)) (‵ (box_owns (ghosts.dealloc_token a) K (block_ptr b o) x))) (tested 𝓛 a (block_ptr b o) x) $ learn ! (λ t.
    let made : Val = both (vptr b o) h in let typed = loose_good K Z heap_laws.the_row_laws ghosts b o h fits in let v₁ : Val = live 1 (vcons made vnil) in let d : To.Denot = record { at = block_ptr b o; alloc = a; value = x } in
    let good₁ : Good (layout Out) v₁ = (and_tt _ typed.0, (record { fits = lit< tt }, (typed.1, tt))) in
    suffices ! (Run (made ∷ [])) (subst (λ (us : List Val). ent 𝓤 (Run (made ∷ [])) (Run us)) (sym ((λ i. ws i ++ []) ∙ (λ i. both (ptr_val (is_block i)) h ∷ []))) (id⊢ 𝓤 (Run (made ∷ [])))) $
    enter ! 𝓣.C 𝓣.Λ fn (made ∷ []) Post $ alloc_all ! (λ l. pass_all ! refl (typed, tt) $ let Ev = env fn.locals l in
    sets ! (of_opd ! (get_in ! (fld ! refl (stop !)) (sub ! 0 refl (whole !)))) refl (tt, tt) $ sets ! (of_opd ! (get_in ! (fld ! refl (stop !)) (sub ! 1 refl (whole !)))) refl fits $
    sets ! (bin ! (get ! refl) (lit ! tt) (tests_null (block_ptr b o) t)) refl (tt, tt) $ first ! $ branches ! (get ! refl) (λ wrong. absurd wrong) (λ _.
    sets ! (of_opd ! (get ! refl)) refl (tt, tt) $
    sets ! (agg ! (and_then ! (get ! refl) (and_then ! (get ! refl) (no_more !)))) refl typed $ sets_last ! (agg ! (and_then ! (lit ! tt) (and_then ! (get ! refl) (no_more !)))) refl good₁ $
    exec ! 𝓣.C 𝓣.Λ Ev (after 4 fn.body) (at_ret Ev Post) $ sets ! (of_opd ! (get ! refl)) refl good₁ $
    returns ! (look_at ! 0 refl) $ free_all ! refl $
    loose_in K Z heap_laws.the_row_laws ghosts ! b o h a x $ use1 𝓛 (‵ (Out.own_val (Some d) (v₁ ∷ []))) (Some-of 𝓛 To d made) $
    move ! (1 ∷ 2 ∷ []) $ drop ! $ drop ! $
    suffices ! _ (ends_at 𝓛 F.ended stayed c z v₁ (Some d) (tt, tt) (tt, tt)) $ says ! is_some $
    nothing ! $ nothing ! $ fjoin ! $ join ! $ nothing ! $ join ! $ done !))))))
