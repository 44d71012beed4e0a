-- In the first version repairs and mendings are what they were.
use Rattle.std.proofs.Common.{◌≡◌, ◌⊎◌, ℕ, zero, suc, true, false, inl, inr, List, slice_index, IsTrue, Contains, refl, sym, subst}
use Rattle.std.proofs.lemmas.Bool.{cases_Bool}
use Rattle.std.proofs.lemmas.List.Elements.{All-contains}
use Rattle.list_laws.proofs.Members.{all_from}
use Rattle.cca_base.specs.declared.model.Move.{Move}
use Rattle.cca_base.specs.Model.{RepairsFit, IsInChain, IsNext, MendsAtOnce, is_broken}
use Rattle.cca_base.proofs.NextModes.{repair_of, chain_one, sound_chain, at_once_fits}
use Rattle.cca_laws.specs.FirstVersion.{RulesAsBefore, FirstIsSecond, MendingsAsBefore}

-- a repair is one of its source
pub own_next : (moves : List Move) (move : Move) → Contains moves move → move.repair ≡ true → IsNext moves move.component move.source move.target
own_next moves move among repair = record { repair = move; of_model = among; mends = repair_of move.component move.source move repair refl refl; target = refl }

-- where no repair leads to a broken mode, nothing does
none_into : (moves : List Move) → RepairsFit 1 moves → (x : Move) → Contains moves x → is_broken moves x.component x.target ≡ false
none_into moves h x among = elim (cases_Bool (is_broken moves x.component x.target)) [
  | inl broken ↦
      let repair = All-contains (λ (move : Move). IsTrue (is_broken moves move.component move.target) → IsTrue move.repair) moves x h.only_repairs_enter among broken in
      h.at_once refl x.component x.source x.target (own_next moves x among repair)
  | inr sound ↦ sound
]

pub rules_as_before : RulesAsBefore
rules_as_before moves = (
  λ h. record {
    one_target = h.one_target;
    none_into = all_from (λ (move : Move). is_broken moves move.component move.target ≡ false) moves (none_into moves h);
    only_repairs_leave = h.only_repairs_leave;
  },
  λ h. at_once_fits 1 moves h.one_target h.none_into h.only_repairs_leave,
)

pub first_is_second : FirstIsSecond
first_is_second moves h = let before = (rules_as_before moves).0 h in at_once_fits 2 moves before.one_target before.none_into before.only_repairs_leave

-- ---- mendings

module _ (moves : List Move) (at_once : MendsAtOnce moves) where
  stands_or_mends : (c from to : ℕ) → IsInChain moves c from to → (to ≡ from) ⊎ IsNext moves c from to
  stands_or_mends c from to (zero, e) = inl (sym e)
  stands_or_mends c from to (suc n, p) = inr (subst (IsNext moves c from) (sound_chain moves c p.0 to n p.2 (at_once c from p.0 p.1)) p.1)

  in_chain : (c from to : ℕ) → (to ≡ from) ⊎ IsNext moves c from to → IsInChain moves c from to
  in_chain c from to (inl same) = (0, sym same)
  in_chain c from to (inr next) = (1, chain_one moves c from to next)

pub mendings_as_before : MendingsAsBefore
mendings_as_before m w first s s2 = (
  λ h. record {
    full = h.full;
    each = λ c within. stands_or_mends m.moves (w.repairs.at_once first) c (slice_index s c) (slice_index s2 c) (h.each c within);
  },
  λ h. record {
    full = h.full;
    each = λ c within. in_chain m.moves (w.repairs.at_once first) c (slice_index s c) (slice_index s2 c) (h.each c within);
  },
)
