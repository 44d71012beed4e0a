use Rattle.std.proofs.Common.{◌≡◌, ◌<◌, ◌≤◌, ◌+◌, ◌-◌, ◌^◌, ◌∙◌, All, Some, None, min, slice_index, refl, sym, ap, subst, arith}
use Rattle.cca_base.specs.declared.cube.Pair.{Pair}
use Rattle.group_search.specs.Bounds.{EachPays}
use Rattle.group_search.specs.Questions.{IsCut, in_group}
use Rattle.group_search.specs.Works.{HasRoom}
use Rattle.group_search.specs.declared.spending.Spending.{Spending}
use Rattle.group_search.specs.declared.work.Work.{Work}
use Rattle.group_search.proofs.SpendLaws.{held_same, leaves_same, limit_left, none_left, pays_first, pays_more, work_kept}
use Rattle.group_search.proofs.spending.spend_all.Goals.{in-Some+in_ok-amount+else-amount-limit, in_default}
use Rattle.group_search.proofs.spending.spend_all.Goals as goal

pub loop-at-init : goal.loop-at-init
loop-at-init g c =
    let q = g.P.Paths.means.question c.args.problem.now in
    let test = in_group c.args.work.now.names c.args.group in
    record {
      kept = record { boxed = refl; cuts = refl; names = refl; focus = refl; halves = refl; best = refl; marks = refl; cut = refl };
      room = record { spent = c.clear.ensures.spent ∙ c.requires.work.room.spent; named = c.clear.ensures.named ∙ c.requires.work.room.named };
      least = omega arith;
      less = c.requires.less;
      pays = pays_first q test c.args.work.now.boxed c.clear.new.self.spent (c.args.base - c.args.base) (omega arith) c.requires.work.ready c.requires.stand;
    }

pub held_cut-requires-clause-cuts : goal.held_cut-requires-clause-cuts
held_cut-requires-clause-cuts g c =
    let q = g.P.Paths.means.question c.args.problem.now in
    subst (All (IsCut q)) (sym c.loop-at.invariant.kept.cuts) c.requires.work.cuts

pub returns-in_err-amount-clause-work : goal.returns-in_err-amount-clause-work
returns-in_err-amount-clause-work g c = work_kept (g.P.Paths.means.question c.args.problem.now) c.args.work.now c.loop-at.work c.requires.work c.loop-at.invariant.kept c.loop-at.invariant.room

pub returns-then-amount-limit-clause-work : goal.returns-then-amount-limit-clause-work
returns-then-amount-limit-clause-work g c = work_kept (g.P.Paths.means.question c.args.problem.now) c.args.work.now c.loop-at.work c.requires.work c.loop-at.invariant.kept c.loop-at.invariant.room

pub returns-clause-work : goal.returns-clause-work
returns-clause-work g c = work_kept (g.P.Paths.means.question c.args.problem.now) c.args.work.now c.loop-at.work c.requires.work c.loop-at.invariant.kept c.loop-at.invariant.room

pub returns-in_err-amount-clause-none : goal.returns-in_err-amount-clause-none
returns-in_err-amount-clause-none g c is =
    let q = g.P.Paths.means.question c.args.problem.now in
    let p = c.args.problem.now in
    let group = c.args.group in
    let work = c.args.work.now in
    let cut = c.in-Some.cut.now in
    let kept = c.loop-at.invariant.kept in
    let held = held_same q group c.as_slice-names.result.now work.names c.loop-at.work.boxed work.boxed cut (c.as_slice-names.ensures ∙ kept.names) kept.boxed c.in-Some.ensures.held in
    let leaves = leaves_same q group c.as_slice-names.result.now work.names c.loop-at.work.boxed work.boxed cut (c.as_slice-names.ensures ∙ kept.names) kept.boxed
    c.as_slice-spent.result.now c.loop-at.work.spending.spent c.least_left.result None c.as_slice-spent.ensures c.in_err-amount.was c.least_left.ensures in
    none_left q (in_group work.names group) work.boxed c.loop-at.work.spending.spent cut (g.met.P.Paths.owned p) (λ values costs x. let w = g.met.P.Paths.whole p values costs x in w.0) c.in-Some.ensures.cut held c.args.limit leaves

pub returns-then-amount-limit-clause-none : goal.returns-then-amount-limit-clause-none
returns-then-amount-limit-clause-none g c is =
    let q = g.P.Paths.means.question c.args.problem.now in
    let p = c.args.problem.now in
    let group = c.args.group in
    let work = c.args.work.now in
    let cut = c.in-Some.cut.now in
    let amount = c.in_ok-amount.amount in
    let total = c.loop-at.total in
    let inv = c.loop-at.invariant in
    let kept = inv.kept in
    let held = held_same q group c.as_slice-names.result.now work.names c.loop-at.work.boxed work.boxed cut (c.as_slice-names.ensures ∙ kept.names) kept.boxed c.in-Some.ensures.held in
    let leaves = leaves_same q group c.as_slice-names.result.now work.names c.loop-at.work.boxed work.boxed cut (c.as_slice-names.ensures ∙ kept.names) kept.boxed
    c.as_slice-spent.result.now c.loop-at.work.spending.spent c.least_left.result (Some amount) c.as_slice-spent.ensures c.in_ok-amount.was c.least_left.ensures in
    limit_left q (in_group work.names group) work.boxed c.loop-at.work.spending.spent cut (g.met.P.Paths.owned p) (λ values costs x. let w = g.met.P.Paths.whole p values costs x in w.0) c.in-Some.ensures.cut held
    (total - c.args.base) amount c.args.limit leaves inv.pays (omega (arith, c.if-amount-limit.true, inv.less)) (omega (arith, c.if-amount-limit.true, inv.less, inv.least, c.requires.base))

pub loop-at-preserved : goal.loop-at-preserved
loop-at-preserved g c =
    let q = g.P.Paths.means.question c.args.problem.now in
    let p = c.args.problem.now in
    let group = c.args.group in
    let work = c.args.work.now in
    let test = in_group work.names group in
    let total = c.loop-at.total in
    let spent = c.loop-at.work.spending.spent in
    let inv = c.loop-at.invariant in
    let kept = inv.kept in
    elim c.match-held_cut.branch [
      | in-Some+in_ok-amount+else-amount-limit w ↦
          let cut = w.in-Some.cut.now in
          let amount = w.in_ok-amount.amount in
          let new = w.spend.new.spending in
          let held = held_same q group c.as_slice-names.result.now work.names c.loop-at.work.boxed work.boxed cut (c.as_slice-names.ensures ∙ kept.names) kept.boxed w.in-Some.ensures.held in
          let leaves = leaves_same q group c.as_slice-names.result.now work.names c.loop-at.work.boxed work.boxed cut (c.as_slice-names.ensures ∙ kept.names) kept.boxed
          w.as_slice-spent.result.now spent w.least_left.result (Some amount) w.as_slice-spent.ensures w.in_ok-amount.was w.least_left.ensures in
          let taken = subst (λ of. All (λ (r : Pair). min (slice_index spent (slice_index of r.item) + amount) (2 ^ 64 - 1) ≤ slice_index new.spent (slice_index of r.item)) cut) w.components.ensures w.spend.ensures.more in
          let less : total + amount < c.args.limit = omega (arith, w.if-amount-limit.false) in
          let pays = pays_more q test work.boxed spent cut (g.met.P.Paths.owned p) (λ values costs x. let law = g.met.P.Paths.whole p values costs x in law.0) w.in-Some.ensures.cut held
          new.spent (total - c.args.base) amount w.spend.ensures.kept taken (omega (arith, less)) leaves inv.pays in
          let same : c.match-held_cut.work.spending ≡ new = ap (λ (z : Work). z.spending) w.work-is in
          record {
            kept = record {
              boxed = ap (λ (z : Work). z.boxed) w.work-is ∙ kept.boxed;
              cuts = ap (λ (z : Work). z.cuts) w.work-is ∙ kept.cuts;
              names = ap (λ (z : Work). z.names) w.work-is ∙ kept.names;
              focus = ap (λ (z : Work). z.focus) w.work-is ∙ kept.focus;
              halves = ap (λ (z : Work). z.halves) w.work-is ∙ kept.halves;
              best = ap (λ (z : Work). z.best) w.work-is ∙ kept.best;
              marks = ap (λ (z : Work). z.marks) w.work-is ∙ kept.marks;
              cut = ap (λ (z : Work). z.cut) w.work-is ∙ kept.cut;
            };
            room = subst (HasRoom q) (sym same) (record { spent = w.spend.ensures.spent ∙ inv.room.spent; named = w.spend.ensures.named ∙ inv.room.named });
            least = omega (arith, w.total-is, inv.least);
            less = omega (arith, w.total-is, less);
            pays = subst (λ n. EachPays q test work.boxed.masks work.boxed.columns.costs c.match-held_cut.work.spending.spent n) (omega (arith, w.total-is, inv.least))
                (subst (λ (s : Spending). EachPays q test work.boxed.masks work.boxed.columns.costs s.spent (total - c.args.base + amount)) (sym same) pays);
          }
      | in_default w ↦
          let same : c.match-held_cut.work.spending ≡ c.loop-at.work.spending = ap (λ (z : Work). z.spending) w.work-is in
          record {
            kept = record {
              boxed = ap (λ (z : Work). z.boxed) w.work-is ∙ kept.boxed;
              cuts = ap (λ (z : Work). z.cuts) w.work-is ∙ kept.cuts;
              names = ap (λ (z : Work). z.names) w.work-is ∙ kept.names;
              focus = ap (λ (z : Work). z.focus) w.work-is ∙ kept.focus;
              halves = ap (λ (z : Work). z.halves) w.work-is ∙ kept.halves;
              best = ap (λ (z : Work). z.best) w.work-is ∙ kept.best;
              marks = ap (λ (z : Work). z.marks) w.work-is ∙ kept.marks;
              cut = ap (λ (z : Work). z.cut) w.work-is ∙ kept.cut;
            };
            room = subst (HasRoom q) (sym same) inv.room;
            least = omega (arith, w.total-is, inv.least);
            less = omega (arith, w.total-is, inv.less);
            pays = subst (λ n. EachPays q test work.boxed.masks work.boxed.columns.costs c.match-held_cut.work.spending.spent (n - c.args.base)) (sym w.total-is)
                (subst (λ (s : Spending). EachPays q test work.boxed.masks work.boxed.columns.costs s.spent (total - c.args.base)) (sym same) inv.pays);
          }
    ]
