-- A set of subjects, as words of bits.
use Rattle.std.specs.Prelude.{ℕ, Bool, ◌/◌, ◌%◌, slice_index}
use Rattle.cca_base.specs.Sets.{has}
use Rattle.clash_analysis.specs.declared.subjects.TheConstants.{WORD_BITS}
use Rattle.clash_analysis.specs.declared.subjects.SubjectSet.{SubjectSet}

-- the subject is in the set
abbrev pub is_in : SubjectSet → ℕ → Bool
is_in set n = has (slice_index set.words (n / WORD_BITS)) (n % WORD_BITS)
