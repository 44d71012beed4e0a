-- The minimal cubes of which two things hold are the least over a minimal cube of each.
use Rattle.std.proofs.Common.{◌++◌, List, All, Contains, inl, inr}
use Rattle.std.proofs.lemmas.List.Elements.{All-append, All-contains, Contains-append_cases, Contains-append_left, Contains-append_right}
use Rattle.list_laws.proofs.Members.{all_from}
use Rattle.cca_base.specs.declared.cube.Pair.{Pair}
use Rattle.cca_base.specs.Cube.{AreInCubeOrder, IsPart, IsRising}
use Rattle.guard_compiler.specs.Cover.{IsCovered}
use Rattle.guard_compiler.specs.LeastUnions.{AreLeastUnions, IsLeastOverBoth, IsOverBoth}
use Rattle.guard_compiler.proofs.CoverLaws.{part_of_part}
use Rattle.prime_implicants.proofs.NamedPairs.{named, named_part, named_rises, of_named, to_named}

-- a rising cube of such pairs of which something holds, and of no proper part of it
pub record IsMinimal (Allowed : Pair → Type 0) (P : List Pair → Type 0) (cube : List Pair) : Type 0 where
  pub rising : IsRising cube
  pub allowed : All Allowed cube
  pub holds : P cube
  pub minimal : (part : List Pair) → IsPart part cube → P part → IsPart cube part

-- exactly these, in cube order
pub record AreMinimal (Allowed : Pair → Type 0) (P : List Pair → Type 0) (cubes : List (List Pair)) : Type 0 where
  pub in_order : AreInCubeOrder cubes
  pub each : (cube : List Pair) → (Contains cubes cube → IsMinimal Allowed P cube) × (IsMinimal Allowed P cube → Contains cubes cube)

-- what holds of a cube holds of one with more pairs, and of a minimal part
pub record HasMinimalParts (Allowed : Pair → Type 0) (P : List Pair → Type 0) : Type 0 where
  pub more : (part cube : List Pair) → ((p : Pair) → Contains part p → Contains cube p) → P part → P cube
  pub some : (cube : List Pair) → IsRising cube → All Allowed cube → P cube → (part : List Pair) × IsMinimal Allowed P part × IsPart part cube

module _ (Allowed : Pair → Type 0) (P Q Both : List Pair → Type 0) (for_p : HasMinimalParts Allowed P) (for_q : HasMinimalParts Allowed Q)
    (apart : (cube : List Pair) → Both cube → P cube × Q cube) (together : (cube : List Pair) → P cube → Q cube → Both cube) (firsts seconds : List (List Pair))
    (are_p : AreMinimal Allowed P firsts) (are_q : AreMinimal Allowed Q seconds) where
  both_more : (part cube : List Pair) → ((p : Pair) → Contains part p → Contains cube p) → Both part → Both cube
  both_more part cube inside h = let each = apart part h in together cube (for_p.more part cube inside each.0) (for_q.more part cube inside each.1)

  covered_p : (cube : List Pair) → IsCovered firsts cube → P cube
  covered_p cube k = for_p.more k.part cube (λ p among. All-contains (Contains cube) k.part p k.is_part among) ((are_p.each k.part).0 k.among).holds

  covered_q : (cube : List Pair) → IsCovered seconds cube → Q cube
  covered_q cube k = for_q.more k.part cube (λ p among. All-contains (Contains cube) k.part p k.is_part among) ((are_q.each k.part).0 k.among).holds

  over_both : (cube : List Pair) → IsOverBoth firsts seconds cube → Both cube
  over_both cube o = together cube (covered_p cube o.first) (covered_q cube o.second)

  both_over : (cube : List Pair) → IsRising cube → All Allowed cube → Both cube → IsOverBoth firsts seconds cube
  both_over cube up allowed h =
      let each = apart cube h in
      let a = for_p.some cube up allowed each.0 in
      let b = for_q.some cube up allowed each.1 in
      record {
        rising = up;
        first = record { part = a.0; among = (are_p.each a.0).1 a.1; is_part = a.2 };
        second = record { part = b.0; among = (are_q.each b.0).1 b.1; is_part = b.2 };
      }

  minimal_least : (cube : List Pair) → IsMinimal Allowed Both cube → IsLeastOverBoth firsts seconds cube
  minimal_least cube its = record { over = both_over cube its.rising its.allowed its.holds; least = λ part h o. its.minimal part h (over_both part o) }

  -- a least cube has only pairs of the two minimal cubes that it is over
  least_pairs : (cube : List Pair) → (l : IsLeastOverBoth firsts seconds cube) → (p : Pair) → Contains cube p → Contains (l.over.first.part ++ l.over.second.part) p
  least_pairs cube l p among =
      let a = l.over.first in
      let b = l.over.second in
      let pairs = a.part ++ b.part in
      let inside : IsPart pairs cube = All-append (Contains cube) a.part b.part a.is_part b.is_part in
      let whole : IsPart cube (named pairs cube) = l.least (named pairs cube) (named_part pairs cube) (record {
        rising = named_rises pairs cube l.over.rising;
        first = record { part = a.part; among = a.among; is_part = all_from (Contains (named pairs cube)) a.part (λ q there. to_named pairs cube inside q (Contains-append_left a.part b.part q there)) };
        second = record { part = b.part; among = b.among; is_part = all_from (Contains (named pairs cube)) b.part (λ q there. to_named pairs cube inside q (Contains-append_right a.part b.part q there)) };
      }) in
      of_named pairs cube l.over.rising inside p (All-contains (Contains (named pairs cube)) cube p whole among)

  least_allowed : (cube : List Pair) → IsLeastOverBoth firsts seconds cube → All Allowed cube
  least_allowed cube l = all_from Allowed cube (λ p among. elim (Contains-append_cases l.over.first.part l.over.second.part p (least_pairs cube l p among)) [
    | inl one ↦ All-contains Allowed l.over.first.part p ((are_p.each l.over.first.part).0 l.over.first.among).allowed one
    | inr other ↦ All-contains Allowed l.over.second.part p ((are_q.each l.over.second.part).0 l.over.second.among).allowed other
  ])

  least_minimal : (cube : List Pair) → IsLeastOverBoth firsts seconds cube → (part : List Pair) → IsPart part cube → Both part → IsPart cube part
  least_minimal cube l part h enough =
      let same = named part cube in
      let inside : IsPart same cube = named_part part cube in
      let more : Both same = both_more part same (λ p among. to_named part cube h p among) enough in
      let allowed : All Allowed same = all_from Allowed same (λ p among. All-contains Allowed cube p (least_allowed cube l) (All-contains (Contains cube) same p inside among)) in
      let over = both_over same (named_rises part cube l.over.rising) allowed more in
      let back : IsPart same part = all_from (Contains part) same (λ p among. of_named part cube l.over.rising h p among) in
      part_of_part cube same part (l.least same inside over) back

  least_is : (cube : List Pair) → IsLeastOverBoth firsts seconds cube → IsMinimal Allowed Both cube
  least_is cube l = record { rising = l.over.rising; allowed = least_allowed cube l; holds = over_both cube l.over; minimal = least_minimal cube l }

  pub least_are_minimal : (cubes : List (List Pair)) → AreLeastUnions firsts seconds cubes → AreMinimal Allowed Both cubes
  least_are_minimal cubes are = record {
    in_order = are.in_order;
    each = λ cube. ((λ among. least_is cube ((are.each cube).0 among)), (λ its. (are.each cube).1 (minimal_least cube its)));
  }
