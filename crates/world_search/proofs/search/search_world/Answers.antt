use Rattle.std.proofs.Common.{◌<◌, ◌++◌, ℕ, Bool, List, length, take, slice_index, refl, sym, subst, ◌∙◌}
use Rattle.cca_base.specs.declared.cube.Pair.{Pair}
use Rattle.clash_analysis.specs.Trails.{AllWithin}
use Rattle.clash_analysis.specs.Laws.{Passes}
use Rattle.world_search.specs.Stores.{AreKept, IsStore}
use Rattle.world_search.specs.Asked.{AreAllMetIn}
use Rattle.world_search.specs.Words.{AreMetIn}
use Rattle.world_search.specs.Works.{IsClashed, IsRight}
use Rattle.world_search.proofs.StepLaws.{below_then, dom_same, found_clash, kept_same, store_same, none, none_met, none_kept, none_within, within_before}
use Rattle.world_search.proofs.search.search_world.Goals as goal

pub returns-in-Found-clause-left : goal.returns-in-Found-clause-left
returns-in-Found-clause-left c _ v h =
    let all = c.args.rules.now.clauses.items ++ c.args.beside.now in
    let old = c.args.work.now in
    let now = c.rounds.work in
    let mid = c.step.new.work in
    let is = c.rounds.invariant in
    let slots = take c.rounds.store.kept c.rounds.store.slots.items in
    let looked : (want : List ℕ → Bool) (pairs : List Pair) → AreMetIn all want → AllWithin (Passes want) old.start.items → IsRight want pairs old → AreKept c.args.store.now want → AreAllMetIn all slots want =
    λ want pairs met within t k. record { met = met; learned = is.kept want pairs met within t k } in
    let pairs = c.requires.right.0 in
    let t : IsRight none pairs old = c.requires.right.1 in
    let k : AreKept c.args.store.now none = none_kept (take c.args.store.now.kept c.args.store.now.slots.items) in
    let met = none_met all in
    let within = none_within old.start.items in
    let u : IsRight none pairs mid = c.step.ensures.step.right none pairs (looked none pairs met within t k) (is.right none pairs met k within t) in
    let start = c.step.ensures.step.start ∙ is.start in
    within_before old mid pairs t u start c.requires.levels (below_then old now mid is.below c.step.ensures.step.below) v (slice_index c.step.new.trial v)
    (c.in-Found.ensures.outcome.0 v (subst (λ n. v < n) (sym (dom_same old mid c.requires.ready c.step.ensures.step.ready start)) h))

pub returns-in-Found-clause-store : goal.returns-in-Found-clause-store
returns-in-Found-clause-store c =
    store_same c.rounds.store c.step.new.store c.step.ensures.store (length c.rounds.work.dom.items) (length c.args.work.now.dom.items) c.rounds.invariant.dom c.rounds.invariant.store

pub returns-in-Found-clause-kept : goal.returns-in-Found-clause-kept
returns-in-Found-clause-kept c want pairs met within t k = kept_same c.rounds.store c.step.new.store c.step.ensures.store want (c.rounds.invariant.kept want pairs met within t k)

pub rounds-preserved-in-Tried : goal.rounds-preserved-in-Tried
rounds-preserved-in-Tried c =
    let all = c.args.rules.now.clauses.items ++ c.args.beside.now in
    let old = c.args.work.now in
    let now = c.rounds.work in
    let mid = c.step.new.work in
    let is = c.rounds.invariant in
    let slots = take c.rounds.store.kept c.rounds.store.slots.items in
    let looked : (want : List ℕ → Bool) (pairs : List Pair) → AreMetIn all want → AllWithin (Passes want) old.start.items → IsRight want pairs old → AreKept c.args.store.now want → AreAllMetIn all slots want =
    λ want pairs met within t k. record { met = met; learned = is.kept want pairs met within t k } in
    let start = c.step.ensures.step.start ∙ is.start in
    let dom = dom_same old mid c.requires.ready c.step.ensures.step.ready start in
    record {
      ready = c.step.ensures.step.ready;
      clear = c.in-Tried.ensures.outcome.0;
      start = start;
      room = c.step.ensures.step.room ∙ is.room;
      below = below_then old now mid is.below c.step.ensures.step.below;
      dom = dom;
      long = c.step.ensures.long ∙ is.long;
      store = store_same c.rounds.store c.step.new.store c.step.ensures.store (length now.dom.items) (length mid.dom.items) (is.dom ∙ sym dom) is.store;
      kept = λ want pairs met within t k. kept_same c.rounds.store c.step.new.store c.step.ensures.store want (is.kept want pairs met within t k);
      right = λ want pairs met k within t. c.step.ensures.step.right want pairs (looked want pairs met within t k) (is.right want pairs met k within t);
    }

pub learn_further-requires-clause-store : goal.learn_further-requires-clause-store
learn_further-requires-clause-store c =
    let all = c.args.rules.now.clauses.items ++ c.args.beside.now in
    let old = c.args.work.now in
    let now = c.rounds.work in
    let mid = c.step.new.work in
    let is = c.rounds.invariant in
    let dom = dom_same old mid c.requires.ready c.step.ensures.step.ready (c.step.ensures.step.start ∙ is.start) in
    store_same c.rounds.store c.step.new.store c.step.ensures.store (length now.dom.items) (length mid.dom.items) (is.dom ∙ sym dom) is.store

pub learn_further-requires-clause-clash : goal.learn_further-requires-clause-clash
learn_further-requires-clause-clash c =
    let all = c.args.rules.now.clauses.items ++ c.args.beside.now in
    let old = c.args.work.now in
    let now = c.rounds.work in
    let mid = c.step.new.work in
    let is = c.rounds.invariant in
    let slots = take c.rounds.store.kept c.rounds.store.slots.items in
    let looked : (want : List ℕ → Bool) (pairs : List Pair) → AreMetIn all want → AllWithin (Passes want) old.start.items → IsRight want pairs old → AreKept c.args.store.now want → AreAllMetIn all slots want =
    λ want pairs met within t k. record { met = met; learned = is.kept want pairs met within t k } in
    let start = c.step.ensures.step.start ∙ is.start in
    let clashed : (want : List ℕ → Bool) (pairs : List Pair) → AreMetIn all want → AllWithin (Passes want) old.start.items → IsRight want pairs old → AreKept c.args.store.now want → IsClashed want pairs mid =
    λ want pairs met within t k. found_clash (AreAllMetIn all slots) mid want pairs c.step.ensures.step.ready c.in-Clash.ensures.outcome (looked want pairs met within t k)
    (subst (AllWithin (Passes want)) (sym start) within) (c.step.ensures.step.right want pairs (looked want pairs met within t k) (is.right want pairs met k within t)) in
    (none, c.requires.right.0, clashed none c.requires.right.0 (none_met all) (none_within old.start.items) c.requires.right.1 (none_kept (take c.args.store.now.kept c.args.store.now.slots.items)))

pub returns-in-Some-clause-store : goal.returns-in-Some-clause-store
returns-in-Some-clause-store c =
    let all = c.args.rules.now.clauses.items ++ c.args.beside.now in
    let old = c.args.work.now in
    let now = c.rounds.work in
    let mid = c.step.new.work in
    let is = c.rounds.invariant in
    let dom = dom_same old mid c.requires.ready c.step.ensures.step.ready (c.step.ensures.step.start ∙ is.start) in
    subst (λ n. IsStore n c.learn_further.new.store) dom c.learn_further.ensures.store

pub returns-in-Some-clause-kept : goal.returns-in-Some-clause-kept
returns-in-Some-clause-kept c want pairs met within t k =
    let all = c.args.rules.now.clauses.items ++ c.args.beside.now in
    let old = c.args.work.now in
    let now = c.rounds.work in
    let mid = c.step.new.work in
    let is = c.rounds.invariant in
    let slots = take c.rounds.store.kept c.rounds.store.slots.items in
    let looked : (want : List ℕ → Bool) (pairs : List Pair) → AreMetIn all want → AllWithin (Passes want) old.start.items → IsRight want pairs old → AreKept c.args.store.now want → AreAllMetIn all slots want =
    λ want pairs met within t k. record { met = met; learned = is.kept want pairs met within t k } in
    let start = c.step.ensures.step.start ∙ is.start in
    let clashed : (want : List ℕ → Bool) (pairs : List Pair) → AreMetIn all want → AllWithin (Passes want) old.start.items → IsRight want pairs old → AreKept c.args.store.now want → IsClashed want pairs mid =
    λ want pairs met within t k. found_clash (AreAllMetIn all slots) mid want pairs c.step.ensures.step.ready c.in-Clash.ensures.outcome (looked want pairs met within t k)
    (subst (AllWithin (Passes want)) (sym start) within) (c.step.ensures.step.right want pairs (looked want pairs met within t k) (is.right want pairs met k within t)) in
    c.learn_further.ensures.kept want pairs (clashed want pairs met within t k) (kept_same c.rounds.store c.step.new.store c.step.ensures.store want (is.kept want pairs met within t k))

pub returns-in-Some-clause-blamed : goal.returns-in-Some-clause-blamed
returns-in-Some-clause-blamed c want pairs met k within t =
    let all = c.args.rules.now.clauses.items ++ c.args.beside.now in
    let old = c.args.work.now in
    let now = c.rounds.work in
    let mid = c.step.new.work in
    let is = c.rounds.invariant in
    let slots = take c.rounds.store.kept c.rounds.store.slots.items in
    let looked : (want : List ℕ → Bool) (pairs : List Pair) → AreMetIn all want → AllWithin (Passes want) old.start.items → IsRight want pairs old → AreKept c.args.store.now want → AreAllMetIn all slots want =
    λ want pairs met within t k. record { met = met; learned = is.kept want pairs met within t k } in
    let start = c.step.ensures.step.start ∙ is.start in
    let clashed : (want : List ℕ → Bool) (pairs : List Pair) → AreMetIn all want → AllWithin (Passes want) old.start.items → IsRight want pairs old → AreKept c.args.store.now want → IsClashed want pairs mid =
    λ want pairs met within t k. found_clash (AreAllMetIn all slots) mid want pairs c.step.ensures.step.ready c.in-Clash.ensures.outcome (looked want pairs met within t k)
    (subst (AllWithin (Passes want)) (sym start) within) (c.step.ensures.step.right want pairs (looked want pairs met within t k) (is.right want pairs met k within t)) in
    c.in-Some.ensures.blamed want pairs (clashed want pairs met within t k)

pub rounds-preserved : goal.rounds-preserved
rounds-preserved c =
    let all = c.args.rules.now.clauses.items ++ c.args.beside.now in
    let old = c.args.work.now in
    let now = c.rounds.work in
    let mid = c.step.new.work in
    let is = c.rounds.invariant in
    let slots = take c.rounds.store.kept c.rounds.store.slots.items in
    let looked : (want : List ℕ → Bool) (pairs : List Pair) → AreMetIn all want → AllWithin (Passes want) old.start.items → IsRight want pairs old → AreKept c.args.store.now want → AreAllMetIn all slots want =
    λ want pairs met within t k. record { met = met; learned = is.kept want pairs met within t k } in
    let start = c.step.ensures.step.start ∙ is.start in
    let clashed : (want : List ℕ → Bool) (pairs : List Pair) → AreMetIn all want → AllWithin (Passes want) old.start.items → IsRight want pairs old → AreKept c.args.store.now want → IsClashed want pairs mid =
    λ want pairs met within t k. found_clash (AreAllMetIn all slots) mid want pairs c.step.ensures.step.ready c.in-Clash.ensures.outcome (looked want pairs met within t k)
    (subst (AllWithin (Passes want)) (sym start) within) (c.step.ensures.step.right want pairs (looked want pairs met within t k) (is.right want pairs met k within t)) in
    let new = c.learn_further.new.work in
    let begun = c.learn_further.ensures.start ∙ start in
    let ready = c.in_default.ensures.ready refl in
    let dom = dom_same old mid c.requires.ready c.step.ensures.step.ready start in
    let last = dom_same old new c.requires.ready ready begun in
    record {
      ready = ready;
      clear = c.in_default.ensures.clear refl;
      start = begun;
      room = c.learn_further.ensures.room ∙ c.step.ensures.step.room ∙ is.room;
      below = below_then old now new is.below (below_then now mid new c.step.ensures.step.below (c.in_default.ensures.below refl));
      dom = last;
      long = c.step.ensures.long ∙ is.long;
      store = subst (λ n. IsStore n c.learn_further.new.store) (dom ∙ sym last) c.learn_further.ensures.store;
      kept = λ want pairs met within t k. c.learn_further.ensures.kept want pairs (clashed want pairs met within t k)
          (kept_same c.rounds.store c.step.new.store c.step.ensures.store want (is.kept want pairs met within t k));
      right = λ want pairs met k within t. c.in_default.ensures.right refl want pairs (clashed want pairs met within t k);
    }
