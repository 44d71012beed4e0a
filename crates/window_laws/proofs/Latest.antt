-- Holding, resets, and which records a tracker has behind many ticks.
use Rattle.std.proofs.Common.{◌≡◌, ◌⊎◌, inl, inr, ℕ, zero, suc, ◌+◌, ◌≤◌, min, true, false, nat_lt, List, [], ◌∷◌, ◌++◌, length, map, drop, get_or, refl, sym, ap, subst, ◌∙◌, arith, append-nil}
use Rattle.std.proofs.lemmas.List.{append_assoc, length-append, length-drop}
use Rattle.std.proofs.lemmas.Bool.Decides.{nat_tests}
use Rattle.std.proofs.lemmas.Bool.{cond-true}
use Rattle.cca_base.specs.PlantModel.{PlantModel}
use Rattle.cca_base.specs.State.{start_modes}
use Rattle.window_laws.specs.Trajectories.{Entry}
use Rattle.window_laws.specs.Ticks.{TrackerState, Answer, Found, Unexplained, Holding, Ticks, window, going, next_anchor, next_records, start, TrackerCall, Tick, Reset, Numbered, Tracks}

-- ---- holding

holds_then : (m : PlantModel) (x y : TrackerState) (entry : Entry) (a : Answer) → x.holding ≡ true → Ticks m x entry y a → (a ≡ Holding) × (y.holding ≡ true)
holds_then m x y entry (Found states cost revised) held t = absurd (let e : true ≡ false = sym held ∙ t.awake in cc)
holds_then m x y entry Unexplained held t = absurd (let e : true ≡ false = sym held ∙ t.0 in cc)
holds_then m x y entry Holding held t = (refl, ap (λ (s : TrackerState). s.holding) t.1 ∙ held)

pub starts_awake : (m : PlantModel) (ticks : ℕ) (entry : Entry) (y : TrackerState) → Ticks m (start m ticks) entry y Holding → ⊥
starts_awake m ticks entry y t = let e : false ≡ true = t.0 in cc

pub holds_on : (m : PlantModel) (x y z : TrackerState) (first second : Entry) (a b : Answer) → (a ≡ Unexplained) ⊎ (a ≡ Holding)
    → Ticks m x first y a → Ticks m y second z b → b ≡ Holding
holds_on m x y z first second (Found states cost revised) b h t u = absurd (elim h [ inl e ↦ cc | inr e ↦ cc ])
holds_on m x y z first second Unexplained b h t u = (holds_then m y z second b (ap (λ (s : TrackerState). s.holding) t.2) u).0
holds_on m x y z first second Holding b h t u = (holds_then m y z second b (ap (λ (s : TrackerState). s.holding) t.1 ∙ t.0) u).0

pub holds_behind : (m : PlantModel) (x y z : TrackerState) (first second : Entry) (a : Answer) → Ticks m x first y a → Ticks m y second z Holding → (a ≡ Unexplained) ⊎ (a ≡ Holding)
holds_behind m x y z first second (Found states cost revised) t u = absurd (let e : false ≡ true = sym (ap (λ (s : TrackerState). s.holding) t.after) ∙ u.0 in cc)
holds_behind m x y z first second Unexplained t u = inl refl
holds_behind m x y z first second Holding t u = inr refl

-- ---- a reset

pub resets_forget : (m : PlantModel) (x o y : TrackerState) (calls : List TrackerCall) (answers : List Numbered) → x.ticks ≡ o.ticks
    → Tracks m x (Reset ∷ calls) y answers → Tracks m o (Reset ∷ calls) y answers
resets_forget m x o y calls answers e t = subst (λ n. Tracks m (start m n) calls y answers) e t

-- ---- the records

stays_holding : (m : PlantModel) (x y : TrackerState) (entries : List Entry) (answers : List Numbered) → x.holding ≡ true → Tracks m x (map Tick entries) y answers → y.holding ≡ true
stays_holding m x y [] answers held (e, f) = ap (λ (s : TrackerState). s.holding) e ∙ held
stays_holding m x y (entry ∷ entries) answers held (z, a, others, ticks, rest, e) =
    stays_holding m z y entries others (holds_then m x z entry a held ticks).1 rest

-- the records that went, and those that stayed
halves : (n : ℕ) (l : List Entry) → (front : List Entry) × (l ≡ front ++ drop n l)
halves zero l = ([], refl)
halves (suc n) [] = ([], refl)
halves (suc n) (e ∷ l) = let (front, same) = halves n l in (e ∷ front, ap (λ r. e ∷ r) same)

next_length : (x : TrackerState) (entry : Entry) → length x.records ≤ window → length (next_records x entry) ≡ min window (length x.records + 1)
next_length x entry few = omega (arith, few, length-append (drop (going x) x.records) (entry ∷ []), length-drop (going x) x.records)

same_anchor : (x : TrackerState) → length x.records + 1 ≤ window → next_anchor x ≡ x.anchor
same_anchor x few =
    let short : nat_lt (length x.records) window ≡ true = grind (arith, nat_tests, few) in
    cond-true (nat_lt (length x.records) window) x.anchor (get_or x.last 0 x.anchor) short

abbrev IsLatest : TrackerState → List Entry → TrackerState → Type 0
IsLatest x entries y =
    ((gone : List Entry) × (x.records ++ entries ≡ gone ++ y.records)) × (length y.records ≡ min window (length x.records + length entries))
    × (length x.records + length entries ≤ window → y.anchor ≡ x.anchor)

-- one tick more before the others
step : (x z y : TrackerState) (entry : Entry) (entries : List Entry) → length x.records ≤ window → z.anchor ≡ next_anchor x → z.records ≡ next_records x entry
    → IsLatest z entries y → IsLatest x (entry ∷ entries) y
step x z y entry entries few anchor records ((gone, same), count, first) =
    let (front, parts) = halves (going x) x.records in
    let kept = drop (going x) x.records in
    let long : length z.records ≡ min window (length x.records + 1) = ap length records ∙ next_length x entry few in
    let later : kept ++ (entry ∷ entries) ≡ gone ++ y.records = sym (append_assoc kept (entry ∷ []) entries) ∙ ap (λ r. r ++ entries) (sym records) ∙ same in (
      (front ++ gone, ap (λ r. r ++ (entry ∷ entries)) parts ∙ append_assoc front kept (entry ∷ entries) ∙ ap (λ r. front ++ r) later ∙ sym (append_assoc front gone y.records)),
      omega (arith, count, long, few),
      λ h. first (omega (arith, long, h)) ∙ anchor ∙ same_anchor x (omega (arith, h)),
    )

latest : (m : PlantModel) (x y : TrackerState) (entries : List Entry) (answers : List Numbered) → length x.records ≤ window → Tracks m x (map Tick entries) y answers → y.holding ≡ false
    → IsLatest x entries y
latest m x y [] answers few (e, f) awake = subst (IsLatest x []) (sym e) (([], append-nil x.records), omega (arith, few), λ h. refl)
latest m x y (entry ∷ entries) answers few (z, Found states cost revised, others, ticks, rest, e) awake =
    let records : z.records ≡ next_records x entry = ap (λ (s : TrackerState). s.records) ticks.after in
    let anchor : z.anchor ≡ next_anchor x = ap (λ (s : TrackerState). s.anchor) ticks.after in
    let count : length z.records ≡ min window (length x.records + 1) = ap length records ∙ next_length x entry few in
    step x z y entry entries few anchor records (latest m z y entries others (omega (arith, count)) rest awake)
latest m x y (entry ∷ entries) answers few (z, Unexplained, others, ticks, rest, e) awake =
    absurd (let f : true ≡ false = sym (stays_holding m z y entries others (ap (λ (s : TrackerState). s.holding) ticks.2) rest) ∙ awake in cc)
latest m x y (entry ∷ entries) answers few (z, Holding, others, ticks, rest, e) awake =
    absurd (let f : true ≡ false = sym (stays_holding m z y entries others (ap (λ (s : TrackerState). s.holding) ticks.1 ∙ ticks.0) rest) ∙ awake in cc)

pub keeps_latest : (m : PlantModel) (ticks : ℕ) (entries : List Entry) (y : TrackerState) (answers : List Numbered) → Tracks m (start m ticks) (map Tick entries) y answers → y.holding ≡ false
    → ((gone : List Entry) × (entries ≡ gone ++ y.records)) × (length y.records ≡ min window (length entries))
    × (length entries ≤ window → y.anchor ≡ start_modes m)
keeps_latest m ticks entries y answers t awake =
    let (records, count, anchor) = latest m (start m ticks) y entries answers (omega arith) t awake in
    (records, omega (arith, count), λ h. anchor (omega (arith, h)))
