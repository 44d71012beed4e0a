use Rattle.std.proofs.Common.{◌≡◌, ◌∙◌, ℕ, List, length, ap, subst, sym}
use Rattle.std.proofs.lemmas.List.{with_items_is}
use Rattle.cca_base.specs.declared.cube.Pair.{Pair}
use Rattle.cca_base.specs.Repairs.{pairs_of}
use Rattle.cca_base.proofs.StatePairs.{pairs_have_modes}
use Rattle.world_search.specs.Assumed.{AreAsked}
use Rattle.world_search.specs.Spaces.{world_in}
use Rattle.world_search.specs.Worlds.{IsAnswer}
use Rattle.consistency.proofs.Bridge.{asked_modes}
use Rattle.consistency.proofs.ClashLaws.{answer_shows, own_pairs}
use Rattle.consistency.proofs.asking.ask_state.Goals as goal

pub ask-requires-clause-pairs : goal.ask-requires-clause-pairs
ask-requires-clause-pairs c =
    let m = c.args.model.now in
    let s : List ℕ = c.args.state.now.modes in
    let room = c.see.new.space.pairs in
    let long : length c.put_pairs.new.pairs ≡ length room.items = c.put_pairs.ensures.long ∙ ap length c.deref_mut.ensures.value in
    let own = own_pairs s c.as_slice.result.now c.len.result c.put_pairs.new.pairs c.as_slice-2.result.now c.as_slice.ensures c.len.ensures
    (c.as_slice-2.ensures.value ∙ with_items_is room c.put_pairs.new.pairs (long ∙ sym room.ok.0)) c.put_pairs.ensures.pairs in
    subst (AreAsked (length c.args.problem.now.sizes)) (sym own) (asked_modes m c.args.problem.now.sizes (pairs_of s) c.requires.of.sizes c.see.ensures.well_formed (pairs_have_modes m s c.requires.state))

pub returns-clause-answer : goal.returns-clause-answer
returns-clause-answer c =
    let m = c.args.model.now in
    let s : List ℕ = c.args.state.now.modes in
    let problem = c.args.problem.now in
    let room = c.see.new.space.pairs in
    let long : length c.put_pairs.new.pairs ≡ length room.items = c.put_pairs.ensures.long ∙ ap length c.deref_mut.ensures.value in
    let own = own_pairs s c.as_slice.result.now c.len.result c.put_pairs.new.pairs c.as_slice-2.result.now c.as_slice.ensures c.len.ensures
    (c.as_slice-2.ensures.value ∙ with_items_is room c.put_pairs.new.pairs (long ∙ sym room.ok.0)) c.put_pairs.ensures.pairs in
    let world = world_in c.ask.new.space in
    answer_shows m s c.args.seen.now problem c.see.new.space.search.base.items c.requires.of c.see.ensures.base c.requires.state c.requires.seen world c.ask.result
    (subst (λ (b : List ℕ). IsAnswer problem.clauses b world (pairs_of s) c.ask.result) c.ask.ensures.base
    (subst (λ (ps : List Pair). IsAnswer problem.clauses c.ask.new.space.base.items world ps c.ask.result) own c.ask.ensures.answer))
