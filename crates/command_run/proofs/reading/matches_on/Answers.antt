use Rattle.std.proofs.Common.{◌≡◌, ◌∙◌, List, [], map, refl, ap, subst, true, inl, inr}
use Rattle.clap.proofs.OnLiterals.{clap_on_literals}
use Rattle.clap.proofs.WalkLemmas.{first_value-rows}
use Rattle.clap.specs.Words.{App, HasKind, HasMatchesOf, IsAmong, Text, app_of, fault_of, first_of, found_of, is_simple, is_simple_and_free, kind_of}
use Rattle.command_run.specs.CommandLine.{faults_at, rsvpd, value_at}
use Rattle.command_run.proofs.reading.matches_on.Goals as goal

is_free : is_simple_and_free rsvpd ≡ true
unfolding clap_on_literals
is_free = refl

has_simple_form : is_simple rsvpd ≡ true
unfolding clap_on_literals
has_simple_form = refl

pub returns-in-Ok-try_get_matches_from-clause-none : goal.returns-in-Ok-try_get_matches_from-clause-none
unfolding faults_at
returns-in-Ok-try_get_matches_from-clause-none c =
    let line : List Text = map (λ w. w.now) c.args.line.now in
    let app_is : app_of c.in-Ok.command ≡ rsvpd = c.in-Ok.ensures in
    subst (λ (a : App). fault_of a line ≡ []) app_is (c.in-Ok-try_get_matches_from.ensures.kinds (ap is_simple_and_free app_is ∙ is_free))

pub returns-in-Ok-try_get_matches_from-clause-values : goal.returns-in-Ok-try_get_matches_from-clause-values
unfolding value_at
returns-in-Ok-try_get_matches_from-clause-values c =
    let line : List Text = map (λ w. w.now) c.args.line.now in
    let app_is : app_of c.in-Ok.command ≡ rsvpd = c.in-Ok.ensures in
    let m = c.in-Ok-try_get_matches_from.matches in
    let has : HasMatchesOf rsvpd line m = subst (λ (a : App). HasMatchesOf a line m) app_is c.in-Ok-try_get_matches_from.ensures.matches in
    λ id. first_value-rows (found_of m) id ∙ ap (first_of id) (has has_simple_form).0

pub returns : goal.returns
unfolding faults_at
returns c =
    let line : List Text = map (λ w. w.now) c.args.line.now in
    let app_is : app_of c.in-Ok.command ≡ rsvpd = c.in-Ok.ensures in
    let kinds : HasKind (fault_of rsvpd line) c.in-Err.error = subst (λ (a : App). HasKind (fault_of a line) c.in-Err.error) app_is (c.in-Err.ensures.kinds (ap is_simple_and_free app_is ∙ is_free)) in
    record {
      none = tt;
      values = tt;
      usage = λ _ none. elim kinds [
        | inl memory ↦ c.in_default-kind.not-OutOfMemory (c.kind.ensures ∙ memory)
        | inr among ↦ subst (IsAmong (kind_of c.in-Err.error)) none among
      ];
    }
