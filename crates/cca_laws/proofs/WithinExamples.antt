-- Stretches, and commands that are too many in them.
use Rattle.std.proofs.Common.{◌≡◌, List, [], ◌∷◌, All, Some, refl, arith}
use Rattle.std.proofs.lemmas.List.Elements.{All-nil}
use Rattle.cca_base.specs.declared.events.Event.TheVariants as event
use Rattle.cca_base.specs.declared.events.Reply.TheVariants.{Send, Achieved}
use Rattle.cca_base.specs.Runs.{TickRecord, IsStretch, IsRight, LeavesPlantAndGoalAlone}
use Rattle.list_laws.proofs.Few.{one_at, two_at, three_at, four_at}
use Rattle.cca_laws.proofs.ServeExamples.{may_begin}
use Rattle.cca_laws.specs.RightExamples.{no_flow}
use Rattle.cca_laws.specs.WithinExamples.{driver_wanted, sent_moment, again_moment, ObservingEndsNoStretch, mirrored_moment, MirroringEndsNoStretch, z_wanted, toward_z, with_a_detour, OneBoundIsStated}

abbrev driven : List TickRecord
driven = sent_moment ∷ again_moment ∷ []

driven_is_stretch : IsStretch driven driver_wanted 0 1
driven_is_stretch = record {
  rising = omega arith;
  within = omega arith;
  goals = two_at (λ (t : TickRecord). t.before.goal ≡ Some driver_wanted) sent_moment again_moment refl refl;
  quiet = one_at (λ (t : TickRecord). All LeavesPlantAndGoalAlone t.since) again_moment (one_at LeavesPlantAndGoalAlone (event.Observe no_flow) tt);
  right = two_at IsRight sent_moment again_moment refl refl;
  reachable = may_begin sent_moment (again_moment ∷ []) refl;
}

pub observing_ends_no_stretch : ObservingEndsNoStretch
observing_ends_no_stretch ways order h = absurd (omega (arith, (h driver_wanted 0 1 driven_is_stretch).few))

mirrored_is_stretch : IsStretch (sent_moment ∷ mirrored_moment ∷ []) driver_wanted 0 1
mirrored_is_stretch = record {
  rising = omega arith;
  within = omega arith;
  goals = two_at (λ (t : TickRecord). t.before.goal ≡ Some driver_wanted) sent_moment mirrored_moment refl refl;
  quiet = one_at (λ (t : TickRecord). All LeavesPlantAndGoalAlone t.since) mirrored_moment (one_at LeavesPlantAndGoalAlone (event.Mirror 0) tt);
  right = two_at IsRight sent_moment mirrored_moment refl refl;
  reachable = may_begin sent_moment (mirrored_moment ∷ []) refl;
}

pub mirroring_ends_no_stretch : MirroringEndsNoStretch
mirroring_ends_no_stretch ways order h = absurd (omega (arith, (h driver_wanted 0 1 mirrored_is_stretch).few))

abbrev at_start : TickRecord
at_start = toward_z (0 ∷ 0 ∷ []) (Send 0)

abbrev mended : TickRecord
mended = toward_z (1 ∷ 0 ∷ []) (Send 3)

abbrev moved : TickRecord
moved = toward_z (1 ∷ 1 ∷ []) (Send 1)

abbrev there : TickRecord
there = toward_z (2 ∷ 1 ∷ []) Achieved

no_events : All LeavesPlantAndGoalAlone []
no_events = All-nil LeavesPlantAndGoalAlone

abbrev HasGoal : TickRecord → Type 0
HasGoal t = t.before.goal ≡ Some z_wanted

detour_is_stretch : IsStretch with_a_detour z_wanted 0 3
detour_is_stretch = record {
  rising = omega arith;
  within = omega arith;
  goals = four_at HasGoal at_start mended moved there refl refl refl refl;
  quiet = three_at (λ (t : TickRecord). All LeavesPlantAndGoalAlone t.since) mended moved there no_events no_events no_events;
  right = four_at IsRight at_start mended moved there refl refl refl refl;
  reachable = may_begin at_start (mended ∷ moved ∷ there ∷ []) refl;
}

pub one_bound_is_stated : OneBoundIsStated
one_bound_is_stated = (refl, refl, λ h. absurd (omega (arith, (h z_wanted 0 3 detour_is_stretch).few)))
