-- One look after another.
use Rattle.std.proofs.Common.{◌≡◌, ℕ, ◌<◌, ◌++◌, Bool, false, Option, None, Some, List, length, get_or, take, refl, sym, ap, ◌∙◌, arith}
use Rattle.list_laws.proofs.Elements.{all_left, all_right}
use Rattle.std.specs.Option.{IfSome}
use Rattle.std.proofs.lemmas.Bool.{false≢true}
use Rattle.std.proofs.lemmas.List.{take-take}
use Rattle.world_search.specs.declared.work.Work.{Work}
use Rattle.world_search.specs.Works.{IsClear, IsLonger, IsMoved, IsReady}
use Rattle.world_search.specs.Followed.{IsFollowed}
use Rattle.world_search.specs.declared.words.WordClause.{WordClause}
use Rattle.world_search.specs.declared.words.WordLiteral.{WordLiteral}
use Rattle.world_search.specs.Words.{AreMetIn, IsMetIn}
use Rattle.world_search.specs.declared.store.Slot.{Slot}
use Rattle.world_search.specs.Stores.{AreSlotsMetIn, clause_of}

pub longer_then : (one two three : Work) → IsLonger one two → IsLonger two three → IsLonger one three
longer_then one two three a b = record {
  start = b.start ∙ a.start;
  longer = omega (arith, a.longer, b.longer);
  room = b.room ∙ a.room;
  kept = sym (take-take one.long two.long three.trail.items a.longer) ∙ ap (take one.long) b.kept ∙ take-take one.long two.long two.trail.items a.longer ∙ a.kept;
}

pub moved_then : (one two three : Work) → IsMoved one two → IsMoved two three → IsMoved one three
moved_then one two three a b = record {
  levels = record { marks = b.levels.marks ∙ a.levels.marks; levels = b.levels.levels ∙ a.levels.levels };
  longer = longer_then one two three a.longer b.longer;
}

module _ (holds : (List ℕ → Bool) → Type 0) where
  -- before anything
  pub followed_none : (work : Work) → IsReady work → IsClear work → IsFollowed holds work work false
  followed_none work ready clear = record {
    ready = ready;
    moved = record { levels = record { marks = refl; levels = refl }; longer = record { start = refl; longer = omega arith; room = refl; kept = refl } };
    right = λ want pairs is t. t;
    clear = λ _. clear;
    clash = λ found. absurd (false≢true found);
  }

  -- a look at part of the clauses after others
  pub followed_then : (part : (List ℕ → Bool) → Type 0) → ((want : List ℕ → Bool) → holds want → part want) → (one two three : Work) (found : Bool) → IsFollowed holds one two false → IsFollowed part two three found → IsFollowed holds one three found
  followed_then part of one two three found a b = record {
    ready = b.ready;
    moved = moved_then one two three a.moved b.moved;
    right = λ want pairs is t. b.right want pairs (of want is) (a.right want pairs is t);
    clear = b.clear;
    clash = λ is want all. b.clash is want (of want all);
  }

-- there are as many sets as there were
pub dom_long : (old new : Work) → IsReady old → IsReady new → IsMoved old new → length new.dom.items ≡ length old.dom.items
dom_long old new a b moved = b.shape.dom ∙ ap length moved.longer.start ∙ sym a.shape.dom

-- how far the trail is followed matters for nothing
module _ (old : Work) (head : ℕ) where
  abbrev pub headed : Work
  headed = record old { head = head }

  pub ready_headed : IsReady headed → IsReady old
  ready_headed r = record {
    shape = record { dom = r.shape.dom; learn = r.shape.learn; small = r.shape.small; marks = r.shape.marks; short = r.shape.short };
    roomy = record { sets = r.roomy.sets; room = r.roomy.room };
    sets = r.sets;
    room = r.room;
    levels = r.levels;
    inside = r.inside;
  }

  pub moved_headed : (new : Work) → IsMoved headed new → IsMoved old new
  moved_headed new m = record {
    levels = record { marks = m.levels.marks; levels = m.levels.levels };
    longer = record { start = m.longer.start; longer = m.longer.longer; room = m.longer.room; kept = m.longer.kept };
  }

  pub followed_headed : (holds : (List ℕ → Bool) → Type 0) (new : Work) (found : Bool) → IsFollowed holds headed new found → IsFollowed holds old new found
  followed_headed holds new found f = record {
    ready = f.ready;
    moved = moved_headed new f.moved;
    right = f.right;
    clear = f.clear;
    clash = f.clash;
  }

-- one of the clauses
pub one_met : (clauses : List WordClause) (i : ℕ) (d : WordClause) (literals : List WordLiteral) → i < length clauses → literals ≡ (get_or clauses i d).literals.items → (want : List ℕ → Bool) → AreMetIn clauses want → IsMetIn literals want
one_met clauses i d literals h same want all = rw same (all i d h)

-- the clause of one of the slots
pub one_kept : (slots : List Slot) (i : ℕ) (d : Slot) (literals : List WordLiteral) → i < length slots → literals ≡ clause_of (get_or slots i d) → (want : List ℕ → Bool) → AreSlotsMetIn slots want → IsMetIn literals want
one_kept slots i d literals h same want all = rw same (all i d h)

-- the clauses in front, and those behind
module _ (front back : List WordClause) (want : List ℕ → Bool) where
  pub met_front : AreMetIn (front ++ back) want → AreMetIn front want
  met_front all = all_left (λ (c : WordClause). IsMetIn c.literals.items want) front back all

  pub met_back : AreMetIn (front ++ back) want → AreMetIn back want
  met_back all = all_right (λ (c : WordClause). IsMetIn c.literals.items want) front back all

-- what holds of a value, if there is one
pub some_weaker : {X : Type 0} (P Q : X → Type 0) → ((x : X) → P x → Q x) → (o : Option X) → IfSome o P → IfSome o Q
some_weaker P Q weaker None is = is
some_weaker P Q weaker (Some x) is = weaker x is
