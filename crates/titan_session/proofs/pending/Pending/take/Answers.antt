use Rattle.std.proofs.Common.{◌≡◌, ℕ, ◌+◌, List, ◌++◌, take, drop, refl, sym, subst, ◌∙◌}
use Rattle.list_laws.proofs.GoneThrough.{parted}
use Rattle.titan_session.proofs.pending.Pending.take.Goals as goal

pub returns-clause-moved : goal.returns-clause-moved
returns-clause-moved c =
    let start = c.self.inside.start in
    let n = c.copy_front-count.result in
    let front = take n c.copy_front-count.new.buf in
    sym c.self.view_is
    ∙ subst (λ (xs : List ℕ). drop start xs ≡ front ++ drop (start + n) xs) c.deref.ensures.value (parted c.deref.result.now _ front start n refl c.copy_front-count.ensures.moved)
