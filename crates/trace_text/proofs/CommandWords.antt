-- Commands are read from words one by one.
use Rattle.std.proofs.Common.{◌≡◌, ◌≢◌, ◌+◌, ℕ, zero, suc, List, [], ◌∷◌, ◌++◌, All, map, drop, slice_get, Some, sym, ap, ◌∙◌, append_assoc}
use Rattle.std.proofs.lemmas.List.{map-append}
use Rattle.std.proofs.lemmas.List.Elements.{All-head, All-push, All-tail}
use Rattle.cca_base.specs.PlantModel.{PlantModel}
use Rattle.trace_text.specs.Names.{name_at}
use Rattle.trace_text.specs.TraceLines.{HasCommand}
use Rattle.trace_text.proofs.ChosenRows.{drop_next}

-- a word that is no command's name
pub no_command : (m : PlantModel) (words : List (List ℕ)) (i : ℕ) (word : List ℕ) → slice_get words i ≡ Some word → ((k : ℕ) → HasCommand m k → name_at m.commands k ≢ word)
    → (plan : List ℕ) → All (HasCommand m) plan → map (name_at m.commands) plan ≢ words
no_command m [] i word there none plan h e = absurd cc
no_command m (w ∷ ws) i word there none [] h e = absurd cc
no_command m (w ∷ ws) zero word there none (k ∷ ks) h e =
    let text : name_at m.commands k ≡ word = cc in none k (All-head (HasCommand m) k ks h) text
no_command m (w ∷ ws) (suc i) word there none (k ∷ ks) h e =
    let rest : map (name_at m.commands) ks ≡ ws = cc in no_command m ws i word there none ks (All-tail (HasCommand m) k ks h) rest

-- the plan has commands of the model, and is named by the words up to i
pub record IsNamedTo (m : PlantModel) (words : List (List ℕ)) (plan : List ℕ) (i : ℕ) : Type 0 where
  pub fits : All (HasCommand m) plan
  pub named : map (name_at m.commands) plan ++ drop i words ≡ words

pub naming_goes_on : (m : PlantModel) (words : List (List ℕ)) (plan : List ℕ) (i k : ℕ) (word : List ℕ) → IsNamedTo m words plan i → slice_get words i ≡ Some word → HasCommand m k
    → name_at m.commands k ≡ word → IsNamedTo m words (plan ++ k ∷ []) (i + 1)
naming_goes_on m words plan i k word h there has is =
    let next : drop i words ≡ word ∷ drop (i + 1) words = drop_next words i word there in
    let names : map (name_at m.commands) (plan ++ k ∷ []) ≡ map (name_at m.commands) plan ++ name_at m.commands k ∷ [] = map-append (name_at m.commands) plan (k ∷ []) in
    record {
      fits = All-push (HasCommand m) plan k h.fits has;
      named = rw (names, is, append_assoc) (ap (λ t. map (name_at m.commands) plan ++ t) (sym next) ∙ h.named);
    }
