-- The text of the lines before the ticks comes part by part.
use Rattle.std.proofs.Common.{◌≡◌, ℕ, ◌++◌, List, [], append_assoc, refl, sym}
use Rattle.std.proofs.lemmas.Grind.{flat_map-append}
use Rattle.trial_maker.specs.declared.chains.Link.{Link}
use Rattle.trial_maker.specs.Chains.{links}
use Rattle.trial_maker.specs.Documents.{ended, text_of, ticks, setup_lines, all_lines, document}
use Rattle.trial_maker.specs.Draws.{each}
use Rattle.trial_maker.specs.PlantLines.{plant_lines}
use Rattle.trial_maker.specs.ScriptLines.{mirror_lines, tick_lines}
use Rattle.trial_maker.specs.TransitionLines.{move_lines, failure_lines}

four_parts : (before : List ℕ) (a b c d : List (List ℕ)) → (((before ++ text_of a) ++ text_of b) ++ text_of c) ++ text_of d ≡ before ++ text_of (a ++ b ++ c ++ d)
four_parts before a b c d = simp (flat_map-append, append_assoc)

pub setup_text : (before plant moves failures after : List ℕ) (all : List Link) (x y : ℕ)
    → all ≡ links
    → plant ≡ before ++ text_of (plant_lines all)
    → moves ≡ plant ++ text_of (each move_lines all x).0
    → y ≡ (each move_lines all x).1
    → failures ≡ moves ++ text_of (each failure_lines all y).0
    → after ≡ failures ++ text_of (mirror_lines all)
    → after ≡ before ++ text_of (setup_lines x).0
unfolding setup_lines
setup_text before plant moves failures after all x y are of_plant of_moves drawn of_failures of_mirrors =
    rw (of_mirrors, of_failures, drawn, of_moves, of_plant, are)
    (four_parts before (plant_lines links) (each move_lines links x).0 (each failure_lines links (each move_lines links x).1).0 (mirror_lines links))

pub setup_number : (all : List Link) (x y z : ℕ) → all ≡ links → y ≡ (each move_lines all x).1 → z ≡ (each failure_lines all y).1 → z ≡ (setup_lines x).1
unfolding setup_lines
setup_number all x y z are of_moves of_failures = rw (of_failures, of_moves, are) refl

pub whole_text : (before setup after : List ℕ) (seed y : ℕ)
    → before ≡ []
    → setup ≡ before ++ text_of (setup_lines seed).0
    → y ≡ (setup_lines seed).1
    → after ≡ setup ++ text_of (each tick_lines ticks y).0
    → after ≡ document seed
unfolding all_lines
whole_text before setup after seed y none of_setup drawn of_ticks =
    rw (of_ticks, drawn, of_setup, none) (sym (flat_map-append ended (setup_lines seed).0 (each tick_lines ticks (setup_lines seed).1).0))
