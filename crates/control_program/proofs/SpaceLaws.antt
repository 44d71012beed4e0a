-- Memory for the worlds of a model serves whichever clauses say what its rules say: the worlds are the same.
use Rattle.std.proofs.Common.{◌≡◌, ◌+◌, ◌-◌, ◌<◌, ◌++◌, ℕ, List, length, slice_index, take, drop, sym, ap, subst, ◌∙◌, arith}
use Rattle.std.specs.Prelude.{sum_by}
use Rattle.std.proofs.lemmas.List.{length-append, length-take-le, take-append-drop, get_or_append_left, get_or-append-add}
use Rattle.std.proofs.lemmas.List.Sums.{AllPass-from_list_all, list_all-from_AllPass}
use Rattle.cca_base.specs.PlantModel.{PlantModel}
use Rattle.cca_base.specs.Model.{mode_counts, value_counts}
use Rattle.clause_form.specs.declared.clause.Clauses.{Clauses}
use Rattle.clause_form.specs.Clauses.{AreValues, all_met, meets}
use Rattle.consistency.specs.declared.world_space.WorldSpace.{WorldSpace}
use Rattle.consistency.specs.Spaces.{IsWorldSpace}
use Rattle.consistency.specs.Worlds.{AreWorldsOf}
use Rattle.world_search.specs.Spaces.{AreBuffers, AreInSizes}
use Rattle.world_search.specs.Worlds.{IsSolution}
use Rattle.control_program.specs.Rooms.{IsSpaceOf}

-- values of the ones and of the others, apart
module _ (a b s w : List ℕ) (e : length s ≡ length a) (h : AreValues (a ++ b) (s ++ w)) where
  first_values : AreValues a s
  first_values = record {
    full = e;
    values = λ i k.
        (let here : i < length s = omega (arith, e, k) in
        let all : i < length (a ++ b) = omega (arith, k, length-append a b) in
        omega (arith, h.values i all, get_or_append_left s w 0 i here, get_or_append_left a b 0 i k));
  }

  other_values : AreValues b w
  other_values = record {
    full = omega (arith, h.full, e, length-append a b, length-append s w);
    values = λ i k.
        (let all : length a + i < length (a ++ b) = omega (arith, k, length-append a b) in
        let one : slice_index (s ++ w) (length a + i) ≡ slice_index w i = ap (λ (n : ℕ). slice_index (s ++ w) (n + i)) (sym e) ∙ get_or-append-add s w i 0 in
        omega (arith, h.values (length a + i) all, one, get_or-append-add a b i 0));
  }

module _ (m : PlantModel) (c d : Clauses) (of_c : AreWorldsOf m c) (of_d : AreWorldsOf m d) where
  same_sizes : c.sizes ≡ d.sizes
  same_sizes = of_c.sizes ∙ sym of_d.sizes

  -- both say the same of values of the subjects
  same_met : (xs : List ℕ) → AreValues c.sizes xs → all_met xs c.clauses ≡ all_met xs d.clauses
  same_met xs h =
      let a = mode_counts m in
      let b = value_counts m in
      let s = take (length a) xs in
      let w = drop (length a) xs in
      let whole : s ++ w ≡ xs = take-append-drop (length a) xs in
      let long : length xs ≡ length (a ++ b) = h.full ∙ ap length of_c.sizes in
      let e : length s ≡ length a = length-take-le (length a) xs (omega (arith, long, length-append a b)) in
      let both : AreValues (a ++ b) (s ++ w) = subst (AreValues (a ++ b)) (sym whole) (subst (λ z. AreValues z xs) of_c.sizes h) in
      let modes = first_values a b s w e both in
      let values = other_values a b s w e both in
      ap (λ l. all_met l c.clauses) (sym whole) ∙ of_c.meaning s w modes values ∙ sym (of_d.meaning s w modes values) ∙ ap (λ l. all_met l d.clauses) whole

  -- so the worlds are the same
  module _ (base : List ℕ) (full : length base ≡ length c.sizes) (sets : AreInSizes c.sizes base) where
    same_worlds : (xs : List ℕ) → IsSolution d.clauses base xs → IsSolution c.clauses base xs
    same_worlds xs h =
        let values : AreValues c.sizes xs = record {
          full = h.full ∙ full;
          values = λ i k. sets i (slice_index xs i) (h.within i (subst (λ n. i < n) (sym full) k));
        } in
        record {
          full = h.full;
          within = h.within;
          met = AllPass-from_list_all (meets xs) c.clauses (same_met xs values ∙ list_all-from_AllPass (meets xs) d.clauses h.met);
        }

  -- and the memory serves both
  same_space : (s : WorldSpace) → IsWorldSpace c s → IsWorldSpace d s
  same_space s h =
      let same = same_worlds s.search.base.items h.search.buffers.base h.search.sizes in
      record {
        search = record {
          buffers = subst (λ n. AreBuffers n s.search) (ap length same_sizes) h.search.buffers;
          room = h.search.room ∙ ap (sum_by (λ n. n - 1)) same_sizes;
          sizes = subst (λ z. AreInSizes z s.search.base.items) same_sizes h.search.sizes;
          learned = λ xs k. h.search.learned xs (same xs k);
          stuck = λ e xs k. h.search.stuck e xs (same xs k);
          roomy = h.search.roomy;
          begun = λ e. record { within = (h.search.begun e).within; all = λ xs k. (h.search.begun e).all xs (same xs k) };
        };
        sets = h.sets ∙ ap length same_sizes;
        pairs = h.pairs ∙ ap length same_sizes;
      }

-- memory that was made for some of them
pub space_of_model : (m : PlantModel) (worlds : Clauses) (space : WorldSpace) → AreWorldsOf m worlds → IsWorldSpace worlds space → IsSpaceOf m space
space_of_model m worlds space of h = λ others of_others. same_space m worlds others of of_others space h
