-- `none` holds null, and owns nothing.
use Rattle.std.proofs.Common.{List, [], ◌∷◌, ◌++◌, refl, sym, subst}
use mir.Val.{Val, vnull}
use base.Logic.{SProp, ent, emp, id⊢}
use base.Fml.{ftrue, fsep}
use prog.Wp.{WpFn}
use types.Kit.{‵, raw, ◌⊛◌, ◌$◌, ◌∵◌, !, qed, done, move, drop, use1, join, split, fsplit, fjoin, feq_i, suffices}
use types.Part.{agg}
use types.Run.{no_more, and_then, lit, returns, enter}
use types.ByLocal.{alloc_all, pass_all, free_all, look_at, get, sets}
use contract.Running.{tables}
use denote.Exit.{yes}
use denote.RawPtr.{Ptr, null_ptr}
use denote.Signature.{plain}
use denote.Steps.{nothing}
use denote.Triple.Walked.{says, Stays, stay_dropped, walk_of, ends_at, Goes-dropped}
use Rattle.std.specs.declared.option.Option.TheVariants.{None}
use Rattle.std.proofs.raw_atomic.Walks.{proved_at}
use Rattle.std.proofs.alloc.Calls.{handle_tells}
use Rattle.loose_box.proofs.Values.{both}
use Rattle.titan_c.specs.Owned.{handle_owns}
use Rattle.titan_c.proofs.Held.{Z, al, good_null, held_in}
use Rattle.titan_c.specs.contracts.handle.Handle.none as F
use Rattle.titan_c.specs.contracts.handle.Handle.none.Key.{name as #self}
use Rattle.titan_c.proofs.handle.Handle.none.Statement.{statement}
use Rattle.titan_c.proofs.handle.Handle.none.Code as code

abbrev stayed : Stays (F.ended).signature.params (F.ended).kept
stayed = (stay_dropped (plain (λ _. Z)) yes, tt)

pub none_spec : {M : Type 1} → statement M
none_spec 𝓤 𝓛 𝓜 𝓡 wired =
    let c = F.clauses 𝓛 𝓜.mem 𝓡.returns in let 𝓣 = tables 𝓤 𝓛.H 𝓜 𝓡 𝓡.env in
    proved_at 𝓛 F.ended stayed c 𝓜 𝓡 (Goes-dropped 𝓛 0 (plain (λ _. Z)) yes (λ κs x f. refl), tt) #self code.function (code.unfolded 𝓤 𝓛.H 𝓜 𝓡 wired) (λ z are.
    let Post : Val → SProp 𝓤 = (walk_of 𝓛 F.ended stayed c).post z in let Run : List Val → SProp 𝓤 = λ ws. WpFn 𝓤 𝓛.H 𝓣.C 𝓣.Λ code.function ws Post in
    let a = z.0.3.0 in
    qed 𝓛 ((‵ ftrue ⊛ ‵ (fsep (Z.own_val a z.0.4.0) ftrue)) ∷ raw (emp 𝓤) ∷ []) ∵ split ! $ drop ! $ fsplit ! $
    handle_tells al ! a z.0.4.0 (λ h ws fits.
    let w : Val = both vnull h in let typed = good_null h fits in
    suffices ! (Run (h ∷ [])) (subst (λ (us : List Val). ent 𝓤 (Run (h ∷ [])) (Run us)) (sym (λ i. ws i ++ [])) (id⊢ 𝓤 (Run (h ∷ [])))) $
    enter ! 𝓣.C 𝓣.Λ code.function (h ∷ []) Post $ alloc_all ! (λ l. pass_all ! refl (fits, tt) $
    sets ! (agg ! (and_then ! (lit ! tt) (and_then ! (get ! refl) (no_more !)))) refl typed $ returns ! (look_at ! 0 refl) $ free_all ! refl $
    nothing ! $ feq_i ! Ptr null_ptr null_ptr refl $ move ! (0 ∷ 2 ∷ []) $ use1 𝓛 (‵ (handle_owns a null_ptr None)) (id⊢ 𝓤 _) $ held_in ! null_ptr h a None $
    move ! (1 ∷ 2 ∷ 3 ∷ []) $ drop ! $ drop ! $ drop ! $
    suffices ! _ (ends_at 𝓛 F.ended stayed c z w (record { at = null_ptr; alloc = a; kept = None }) (tt, tt) (tt, tt)) $ says ! refl $
    nothing ! $ nothing ! $ fjoin ! $ join ! $ nothing ! $ join ! $ done !)))
