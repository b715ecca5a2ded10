-- Facts and inputs that meet the premises of the laws on reservations and errors: the middle node r of a line of three, with a
-- path and a reservation.
use Rattle.std.specs.Prelude.{◌≡◌, ◌<◌, true, false, [], ◌∷◌, Some, None}
use Rattle.rsvp_base.specs.declared.session.Sender.{Sender}
use Rattle.rsvp_base.specs.declared.style.StyleKind.TheVariants.{Wild}
use Rattle.rsvp_base.specs.declared.style.Unit.TheVariants.{One}
use Rattle.rsvp_base.specs.Members.{In}
use Rattle.rsvp_base.specs.Sets.{set_of}
use Rattle.rsvp_base.specs.Table.{get, has}
use Rattle.rsvp_base.specs.TokenBucket.{TokenBucket}
use Rattle.rsvp_messages.specs.declared.ask.Tear.TheVariants as tear
use Rattle.rsvp_messages.specs.declared.message.Message.TheVariants as message
use Rattle.laws_bounds.specs.RouterRules.Bounds.{IsWithinBounds}
use Rattle.laws_bounds.specs.RouterRules.Facts.{resvs_of}
use Rattle.laws_bounds.specs.RouterRules.Inputs.{Came, Input, Spelt, Wait}
use Rattle.router_examples.specs.ThreeRouters.{error, flow, r1, r2, resv, resv_err, s1, scope, sent, session, t1, usual, wild}
use Rattle.laws_bounds.specs.RouterRules.Requests.{toward}
use Rattle.laws_bounds.specs.RouterRules.Steps.{facts_then, sent_then, node_step}
use Rattle.laws_steps.specs.Examples.{back, of_t, one_path, one_resv, r, reserved, resv_in}
use Rattle.laws_steps.specs.ReservationLaws.{IsKnownThen, Touches}

-- t tears it down, asks for more than the link has, or hears that s refused it
abbrev pub torn_in : Input
torn_in = Came 1 r2 (Spelt (message.ResvTear (record { session = session; hop = record { addr = t1; handle = 0 }; tear = tear.Wild (Some scope) })))

-- t tears down another sender
abbrev pub spared_in : Input
spared_in = Came 1 r2 (Spelt (message.ResvTear (record { session = session; hop = record { addr = t1; handle = 0 }; tear = tear.Wild (Some (set_of ((record { addr = s1; port = 1 }) ∷ []))) })))

abbrev pub too_much : TokenBucket
too_much = flow 10001 2000 64 1500

abbrev pub raise_in : Input
raise_in = Came 1 r2 (Spelt (resv t1 None (wild too_much)))

abbrev pub refused_in : Input
refused_in = Came 0 r1 (Spelt (resv_err s1 (error s1 false 1 2) Wild (Some scope) (Some usual)))

pub record ReservationLawsHaveExamples : Type 0 where
  pub within : IsWithinBounds r 0 one_path
  pub asked : get (resvs_of Wild (facts_then r r 0 resv_in one_path)) of_t ≡ Some reserved
  -- it stays while half a period passes
  pub within_one : IsWithinBounds r 0 one_resv
  pub there : get (resvs_of Wild one_resv) of_t ≡ Some reserved
  pub later : 15000 < reserved.dies
  pub untouched : Touches (Wait 15000 0) Wild of_t reserved → ⊥
  pub known_then : (x : Sender) → has reserved.part.senders x ≡ true → IsKnownThen (node_step r r 15000 15000 (Wait 15000 0) one_resv) Wild session x
  pub stays : get (resvs_of Wild (facts_then r r 15000 (Wait 15000 0) one_resv)) of_t ≡ Some reserved
  -- and beside a ResvTear that takes none of its names, but not beside one that does
  pub untouched_too : Touches spared_in Wild of_t reserved → ⊥
  pub stays_too : get (resvs_of Wild (facts_then r r 0 spared_in one_resv)) of_t ≡ Some reserved
  pub touched : Touches torn_in Wild of_t reserved
  -- a Resv and a ResvTear that are sent
  pub resv_sent : In (sent 0 s1 (resv r1 None (wild usual))) (sent_then r r 0 resv_in one_path)
  pub tear_sent : In (sent 0 s1 (message.ResvTear (record { session = session; hop = record { addr = r1; handle = 0 }; tear = tear.Wild (Some scope) }))) (sent_then r r 0 torn_in one_resv)

pub record BlameLawsHaveExamples : Type 0 where
  pub within : IsWithinBounds r 0 one_resv
  -- a refusal of what was asked for, and an error that goes on
  pub refused : In (sent 1 t1 (resv_err r2 (error r2 true 1 2) Wild (Some scope) (Some too_much))) (sent_then r r 0 raise_in one_resv)
  pub passed_on : In (sent 1 t1 (resv_err r2 (error s1 false 1 2) Wild (Some scope) (Some usual))) (sent_then r r 0 refused_in one_resv)
  -- the one unit goes toward s, under a blockade too
  pub unit : has (toward r one_resv back) One ≡ true
  pub under_it : has (toward r (facts_then r r 0 refused_in one_resv) back) One ≡ true
