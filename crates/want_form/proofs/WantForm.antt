-- `want` prints what its lines ask for, does what it means, and keeps it.
use Rattle.std.specs.Prelude.{⊤}
use Rattle.std.proofs.Common.{ℕ, false, List, refl}
use Rattle.line_forms.proofs.AskedForm.{AskedForm, asked_agrees, asked_keeps, asked_told}
use Rattle.line_forms.proofs.EndsRefused.{effect_refused}
use Rattle.line_machine.specs.Next.{Stops}
use Rattle.line_machine.specs.declared.machine.End.{End}
use Rattle.model_form.specs.FormMeaning.{FormAgrees, FormKeeps}
use Rattle.model_form.proofs.RefusedOnly.{IsRefused}
use Rattle.want_lines.specs.declared.request.Request.{Request}
use Rattle.want_form.specs.Answered.{WishesText}
use Rattle.want_form.specs.OneStep.{said_one, serves_one}
use Rattle.want_form.specs.WantLaws.{WishesAreTold}
use Rattle.want_form.specs.WantMeaning.{want_meaning}
use Rattle.want_form.specs.WishMachine.{WishState, ServesRequest, wish_first, wish_lines}
use Rattle.want_form.specs.Wishes.{Wish, Settings, IsAsked, FollowsBy, first_settings}
use Rattle.want_form.proofs.WishTelling.{at, Shows, Leads, does, leads, leads_one, tells, wishes_shown, shown_wishes}
use Rattle.want_lines.proofs.OneRequest.{requests_are_one}

request_refused : (r : Request) (x : WishState) (n : ℕ) (e : End) (text : List ℕ) → ServesRequest r x n (Stops e) text → IsRefused e
request_refused r x n e text h =
    let (f, leads, by) = does x.compiled n (Stops e) text x.settings r h in
    effect_refused false x.compiled.model (at x.compiled) (Shows x.compiled) f tt n e text by

-- its lines ask for wishes, each of which is answered by itself
abbrev wishes : AskedForm WishState Request Settings (Unit {0}) Wish
wishes = record {
  lines = wish_lines;
  first = wish_first;
  place = λ b. tt;
  settings = λ b. first_settings b.model;
  at = at;
  IsSaid = λ b. IsAsked b.model;
  Follows = λ b. FollowsBy b.model;
  Leads = Leads;
  Shows = Shows;
  Ties = λ b t x. Unit {0};
  Texts = WishesText;
  begins = λ b. refl;
  ties = λ b. tt;
  tells = λ b compiled. tells b compiled;
  leads = λ b r s n Later a h. leads b n Later a r s h;
  said_once = λ b s l x y h k. requests_are_one b.model l x y h k;
  one_effect = λ b r s f g h k. leads_one b r s f g h k;
  texts = λ b xs y text h. shown_wishes b xs tt y text h;
  shown = λ b xs text h. (tt, wishes_shown b xs text h);
  said_one = said_one;
  serves_one = serves_one;
  refused = request_refused;
  silent = λ x n. refl;
}

pub wishes_are_told : WishesAreTold
wishes_are_told = asked_told wishes

pub want_agrees : FormAgrees want_meaning
want_agrees = asked_agrees wishes (λ input a. ⊤)

pub want_keeps : FormKeeps want_meaning
want_keeps = asked_keeps wishes (λ input a. ⊤) (λ input a h. tt)
