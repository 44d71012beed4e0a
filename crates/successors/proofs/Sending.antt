-- Which moves are commanded.
use Rattle.std.proofs.Common.{◌≡◌, ◌↔◌, ℕ, List, Some, sym, ap, subst, ◌∙◌}
use Rattle.std.specs.List.{slice_get}
use Rattle.std.proofs.lemmas.Option.{slice_get-get_or, same_Some}
use Rattle.list_laws.proofs.Members.{at_member}
use Rattle.cca_base.specs.declared.cube.Pair.{Pair}
use Rattle.cca_base.specs.declared.model.Move.{Move}
use Rattle.cca_base.specs.Accepted.{CompiledModel, IsCompiled}
use Rattle.cca_base.specs.State.{IsState, Holds}
use Rattle.cca_base.specs.PlantModel.{PlantModel}
use Rattle.cca_base.specs.MoveIndex.{IsMoveNamed}
use Rattle.cca_base.specs.Successors.{IsCommanded}
use Rattle.cca_base.proofs.Commands.{one_named}
use Rattle.successors.specs.Nominal.{SomeStands, NoneSent}
use Rattle.cca_laws.proofs.StandingPrimes.{holds_by_prime, prime_holds}

stands_holds : (b : CompiledModel) → IsCompiled b → (s : List ℕ) → IsState b.model s → (at : ℕ) (move : Move) (cubes : List (List Pair)) → slice_get b.model.moves at ≡ Some move
    → slice_get b.ways at ≡ Some cubes → slice_get s move.component ≡ Some move.source → SomeStands s cubes ↔ Holds b.model s move.guard
stands_holds b h s state at move cubes of_model of_ways source =
    let ways = h.ways at move cubes of_model of_ways in (
      (λ (cube, among, extends). prime_holds b.model s move state source cube ((ways.each cube).0 among) extends),
      (λ holds. let found = holds_by_prime b.model s move state source holds in (found.0, (ways.each found.0).1 found.1, found.2)),
    )

module _ (b : CompiledModel) (h : IsCompiled b) (s : List ℕ) (state : IsState b.model s) (k i : ℕ) (names : IsMoveNamed b.model.moves s k i) where
  -- the move that the command names is commanded where one of its cubes stands
  pub commanded_at : (cubes : List (List Pair)) → slice_get b.ways i ≡ Some cubes → SomeStands s cubes → IsCommanded b.model s (Some k) names.0
  commanded_at cubes of_ways stands = record {
    of_model = at_member b.model.moves i names.0 names.1;
    command = ap Some (sym names.2);
    source = names.3;
    guard = (stands_holds b h s state i names.0 cubes names.1 of_ways names.3).0 stands;
  }

  -- and else none is: it names one move
  pub none_commanded : (cubes : List (List Pair)) → slice_get b.ways i ≡ Some cubes → (SomeStands s cubes → ⊥) → NoneSent b.model s (Some k)
  none_commanded cubes of_ways none move sent =
      let same : move ≡ names.0 = one_named b.model h.accepted.well_formed.commands s k move names.0 sent.of_model (at_member b.model.moves i names.0 names.1)
      (sym (same_Some k move.command sent.command)) names.2 sent.source names.3 in
      none ((stands_holds b h s state i names.0 cubes names.1 of_ways names.3).1 (subst (λ (x : Move). Holds b.model s x.guard) same sent.guard))

-- the move that a command names by an equal model
pub named_by : (m n : PlantModel) (s : List ℕ) (k i : ℕ) → n ≡ m → IsMoveNamed n.moves s k i → IsMoveNamed m.moves s k i
named_by m n s k i same = subst (λ (x : PlantModel). IsMoveNamed x.moves s k i) same

-- a command that names no move moves nothing
pub unnamed : (m : PlantModel) (s : List ℕ) (k : ℕ) → ((i : ℕ) → IsMoveNamed m.moves s k i → ⊥) → NoneSent m s (Some k)
unnamed m s k none move sent =
    let among = sent.of_model in
    none among.0 (move, slice_get-get_or m.moves among.0 move among.1 ∙ ap Some among.2, sym (same_Some k move.command sent.command), sent.source)
