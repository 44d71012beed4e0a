-- The empty model is compiled, and ticks.
use Rattle.std.proofs.Common.{◌≡◌, ℕ, inl, inr, List, [], ◌∷◌, length, refl, sym, ◌∙◌, arith, None}
use Rattle.std.proofs.lemmas.Bool.{false≢true}
use Rattle.list_laws.proofs.Members.{contains_none}
use Rattle.cca_base.specs.declared.events.Event.TheVariants as event
use Rattle.cca_base.specs.declared.events.Reply.TheVariants.{Idle}
use Rattle.cca_base.specs.declared.events.Shown.TheVariants.{Estimated}
use Rattle.cca_base.proofs.EmptyModel.{empty_well_formed}
use Rattle.cca_base.proofs.SetLaws.{has-empty}
use Rattle.cca_base.specs.Model.{empty_model}
use Rattle.cca_base.specs.Implicants.{Needs, Path}
use Rattle.cca_base.specs.Accepted.{IsCompiled}
use Rattle.cca_base.specs.Estimates.{Estimate, IsEarlier}
use Rattle.cca_base.specs.Choice.{IsChosenReply}
use Rattle.cca_base.specs.Trace.{start, Observed}
use Rattle.cca_base.specs.Runs.{Trace}
use Rattle.cca_laws.specs.Examples.{nothing_compiled}

no_needs : (c u : ℕ) → Needs (empty_model 1) c u → ⊥
no_needs c u h = contains_none h.move h.of_model

no_path : (c : ℕ) (between : List ℕ) (u : ℕ) → Path (empty_model 1) c between u → ⊥
no_path c [] u h = no_needs c u h
no_path c (d ∷ between) u h = no_needs c d h.0

pub empty_compiled : IsCompiled nothing_compiled
empty_compiled = record {
  accepted = record {
    well_formed = empty_well_formed 1 (inl refl);
    complete = λ command h. absurd (omega arith);
    worlds = λ s state. ([], record { full = refl; values = λ v h. absurd (omega arith); rules = λ k d h. absurd (omega arith) });
    few_ways = λ k d h. absurd (omega arith);
    acyclic = λ c h. no_path c h.0 c h.1;
    bounded = ([], record { full = refl; each = λ c h. absurd (omega arith) }, omega arith);
  };
  ways_full = refl;
  ways = λ i move cubes h k. absurd cc;
  order = refl;
  bounds = record { full = refl; each = λ c h. absurd (omega arith) };
  sum_fits = omega arith;
}

only_empty : (s : List ℕ) → length s ≡ 0 → IsEarlier s [] → ⊥
only_empty [] e h = absurd cc
only_empty (x ∷ s) e h = absurd (omega arith)

empty_estimate : Estimate (empty_model 1) [] None [] [] 0
empty_estimate = record {
  consistent = record {
    costs = record {
      state = record { full = refl; modes = λ c h. absurd (omega arith) };
      nominal = [];
      is_nominal = inr (λ move h. contains_none move h.of_model, refl);
      parts = [];
      full = refl;
      each = λ c h. absurd (omega arith);
      total = refl;
    };
    world = [];
    is_world = record { full = refl; values = λ v h. absurd (omega arith); rules = λ k d h. absurd (omega arith) };
    agrees = λ k d h. absurd (omega arith);
  };
  least = λ other more h. omega arith;
  first = λ other h before. only_empty other h.costs.state.full before;
}

nothing_seen : Observed (empty_model 1) (start (empty_model 1) 0) []
nothing_seen = record {
  rising = λ i j d lt h. absurd (omega arith);
  each = λ p. (λ among. inl among, λ h. elim h [ inl among ↦ among | inr shown ↦ absurd (false≢true (sym (has-empty p.item) ∙ shown.0)) ]);
}

pub empty_trace : Trace nothing_compiled (IsChosenReply nothing_compiled) (event.Tick ∷ []) (record { tick = 1; shown = Estimated 0 (record { modes = [] }) Idle } ∷ [])
empty_trace = record {
  ticks = record { since = []; before = start (empty_model 1) 0; report = record { tick = 1; shown = Estimated 0 (record { modes = [] }) Idle } } ∷ [];
  made = (
    refl,
    refl,
    refl,
    start (empty_model 1) 1,
    record {
      going = refl;
      seen = [];
      observed = nothing_seen;
      estimate = empty_estimate;
      replies = refl;
      plant = [];
      moves = inr (λ move h. contains_none move h.of_model, refl);
      after = refl;
    },
    refl,
  );
  reported = refl;
}
