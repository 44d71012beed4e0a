-- What is true of draws, and of the document of every seed.
use Rattle.std.specs.Prelude.{◌≡◌, ℕ, ◌<◌, ◌≤◌, ◌^◌, Bool, List, count_by, length, map, codes, Some, slice_get}
use Rattle.std.specs.List.{range_with_len}
use Rattle.std.specs.Str.{bytes_eq}
use Rattle.trial_maker.specs.Chains.{link, link_at, links}
use Rattle.trial_maker.specs.Draws.{next_number, draw}
use Rattle.trial_maker.specs.Documents.{setup_lines, document_lines}
use Rattle.trial_maker.specs.TransitionLines.{guard_of, failure_cost}

-- a draw of n is below n
abbrev pub DrawsStayBelow : Type 0
DrawsStayBelow = (n x : ℕ) → 0 < n → (draw n x).0 < n

-- the numbers have 64 bits
abbrev pub NumbersFit : Type 0
NumbersFit = (x : ℕ) → next_number x < 2 ^ 64

-- the components in turn are those of the numbers 0 to 47
abbrev pub LinksAreNumbered : Type 0
LinksAreNumbered = links ≡ map link_at (range_with_len 0 48)

-- at the first place of a chain nothing is drawn for a guard
abbrev pub FirstGuardsAreFree : Type 0
FirstGuardsAreFree = (chain x : ℕ) → guard_of (link chain 0) x ≡ (codes "true", x)

-- a failure costs 3, 4, 5 or 6
abbrev pub CostsAreSmall : Type 0
CostsAreSmall = (x : ℕ) → (3 ≤ (failure_cost x).0) × ((failure_cost x).0 < 7)

-- 578 lines stand before the ticks, and the script begins behind 529 of them
abbrev pub SetupIsCounted : Type 0
SetupIsCounted = (seed : ℕ) → (length (setup_lines seed).0 ≡ 578) × (slice_get (document_lines seed) 529 ≡ Some (codes "script"))

-- whether a line is a tick
abbrev pub is_tick : List ℕ → Bool
is_tick line = bytes_eq line (codes "tick")

-- every document has 200 ticks
abbrev pub TicksAreCounted : Type 0
TicksAreCounted = (seed : ℕ) → count_by is_tick (document_lines seed) ≡ 200
