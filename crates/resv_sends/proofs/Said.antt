-- What is told of a lane, as the code tells it.
use Rattle.std.specs.Prelude.{◌≡◌, ◌==◌, ◌↔◌, ℕ, Bool, true, false, cond, not, IsTrue, List, [], ◌∷◌, Option, Some, None, refl}
use Rattle.std.proofs.Common.{sym, ap, ◌∙◌}
use Rattle.std.proofs.lemmas.Bool.{eqb-true}
use Rattle.rsvp_base.specs.Orders.{Names}
use Rattle.rsvp_base.specs.Sets.{cut, is_none}
use Rattle.rsvp_base.specs.Table.{empty, size}
use Rattle.rsvp_base.specs.declared.addr.Addr.{Addr}
use Rattle.rsvp_base.specs.declared.hop.Hop.{Hop}
use Rattle.rsvp_base.specs.declared.session.Session.{Session}
use Rattle.rsvp_base.specs.declared.style.StyleKind.{StyleKind}
use Rattle.rsvp_base.specs.declared.style.StyleKind.TheVariants.{Wild, Fixed, Shared}
use Rattle.rsvp_base.proofs.Tables.{either}
use Rattle.rsvp_messages.specs.declared.ask.Ask.{Ask}
use Rattle.rsvp_messages.specs.declared.ask.Tear.{Tear}
use Rattle.rsvp_messages.specs.declared.message.Message.TheVariants as message
use Rattle.style_rules.specs.Lines.{NextHop}
use Rattle.style_rules.specs.Merge.{PartTable}
use Rattle.laws_bounds.proofs.Tests.{parts_tested, parts_told}
use Rattle.router_rules.specs.Asking.{ask_of}
use Rattle.router_rules.specs.Inputs.{Send}
use Rattle.router_rules.specs.Known.{Lane}
use Rattle.router_rules.specs.NodeConfig.{period}
use Rattle.router_rules.specs.Sends.{gone_names, resv_tear_send, same_parts, tear_of}
use Rattle.laws_sends.specs.State.{Said, State, facts_of}
use Rattle.laws_sends.proofs.Routed.{same_test}
use Rattle.laws_sends.specs.Marks.{used_in}
use Rattle.laws_sends.specs.Saying.{SessionLane, ask_seen, told_ask, told_seen, torn_of, torn_seen, wish_seen}
use Rattle.resv_sends.specs.Wishes.{used_seen, wish_seen as own_seen}
use Rattle.resv_sends.specs.Rounds.{told_parts}
use Rattle.laws_sends.specs.Seen.{hop_seen, lane_of, names_seen, toward_at}

-- ---- tests of the code
pub is_nobody : (names : Names) → size names ≡ 0 → is_none names ≡ true
is_nobody names e = ap (λ n. n == 0) e

pub is_somebody : (names : Names) → (size names ≡ 0 → ⊥) → is_none names ≡ false
is_somebody names some = either (is_none names) (λ t. absurd (some (eqb-true (size names) 0 t))) (λ f. f)

pub said_tested : (r : Bool) (was now : PartTable) → IsTrue r ↔ (was ≡ now) → not r ≡ not (same_parts was now)
said_tested r was now is = ap not (same_test r (same_parts was now) (λ t. parts_tested was now (is.0 t)) (λ t. is.1 (parts_told was now t)))

-- marks that are used
pub used_is : (c : ℕ) (n : State) (s : Session) (said : Said) (es : List SessionLane) → used_seen c n s said es ≡ used_in n.place (facts_of c n) s said es
unfolding used_seen
used_is c n s said es = refl

module _ (c : ℕ) (n : State) (s : Session) (st : StyleKind) (hop : NextHop) where
  abbrev lane : Lane
  lane = lane_of s st hop

  -- ---- ResvTears
  module _ (was now : PartTable) (among names : Names) (goes : now ≡ toward_at c n s st hop) (all : among ≡ names_seen c n s st hop) (torn : names ≡ cut (gone_names was now) among) where
    torn_is : names ≡ torn_of was (toward_at c n s st hop) (names_seen c n s st hop)
    torn_is = torn ∙ (λ i. cut (gone_names was (goes i)) (all i))

    pub torn_none : is_none names ≡ true → [] ≡ torn_seen c n lane was
    unfolding torn_seen toward_at names_seen
    torn_none off =
        let none : is_none (torn_of was (toward_at c n s st hop) (names_seen c n s st hop)) ≡ true = ap is_none (sym torn_is) ∙ off in
        sym (ap (λ b. cond b [] (resv_tear_send n.place (facts_of c n) lane (torn_of was (toward_at c n s st hop) (names_seen c n s st hop)) ∷ [])) none)

    pub torn_some : is_none names ≡ false → (to : Hop) → to ≡ hop_seen c n s hop → (tear : Tear) → tear ≡ tear_of st names
        → ◌≡◌ {A = List Send} (record { iface = hop.0; dst = hop.1; message = message.ResvTear (record { session = s; hop = to; tear = tear }); refresh = false } ∷ []) (torn_seen c n lane was)
    unfolding torn_seen toward_at names_seen hop_seen
    torn_some on to to_is tear tear_is =
        let some : is_none (torn_of was (toward_at c n s st hop) (names_seen c n s st hop)) ≡ false = ap is_none (sym torn_is) ∙ on in
        let tears : tear ≡ tear_of st (torn_of was (toward_at c n s st hop) (names_seen c n s st hop)) = tear_is ∙ ap (tear_of st) torn_is in
        (λ i. record { iface = hop.0; dst = hop.1; message = message.ResvTear (record { session = s; hop = to_is i; tear = tears i }); refresh = false } ∷ [])
        ∙ sym (ap (λ b. cond b [] (resv_tear_send n.place (facts_of c n) lane (torn_of was (toward_at c n s st hop) (names_seen c n s st hop)) ∷ [])) some)

  -- ---- Resvs
  pub asked_none : (wish : Option Addr) (due : Bool) (w : Option Ask) → w ≡ None → [] ≡ ask_seen c n lane wish due w
  unfolding ask_seen
  asked_none wish due None e = refl
  asked_none wish due (Some ask) e = cc

  pub asked_some : (wish : Option Addr) (due : Bool) (to : Hop) → to ≡ hop_seen c n s hop → (t : ℕ) → t ≡ period n.place → (ask : Ask)
      → ◌≡◌ {A = List Send} (record { iface = hop.0; dst = hop.1; message = message.Resv (record { session = s; hop = to; period = t; confirm = wish; ask = ask }); refresh = due } ∷ [])
      (ask_seen c n lane wish due (Some ask))
  unfolding ask_seen hop_seen
  asked_some wish due to to_is t t_is ask = λ i. record {
    iface = hop.0;
    dst = hop.1;
    message = message.Resv
        (record { session = s; hop = to_is i; period = t_is i; confirm = wish; ask = ask });
    refresh = due;
  } ∷ []

  -- whom it asks to confirm
  pub wish_given : (a : Addr) → Some a ≡ wish_seen c n lane (Some a)
  unfolding wish_seen
  wish_given a = refl

  pub wish_own : (w : Option Addr) → w ≡ own_seen c n lane → w ≡ wish_seen c n lane None
  unfolding wish_seen own_seen
  wish_own w is = is

  module _ (asked : Option Addr) where
    -- new, due, or neither
    pub parts_new : (due : Bool) (w : Option Ask) → ask_seen c n lane (wish_seen c n lane asked) due w ≡ told_parts c n lane asked true due w
    unfolding ask_seen wish_seen told_parts
    parts_new due None = refl
    parts_new due (Some ask) = refl

    pub parts_due : (w : Option Ask) → ask_seen c n lane None true w ≡ told_parts c n lane asked false true w
    unfolding ask_seen told_parts
    parts_due None = refl
    parts_due (Some ask) = refl

    pub parts_old : (w : Option Ask) → [] ≡ told_parts c n lane asked false false w
    unfolding told_parts
    parts_old None = refl
    parts_old (Some ask) = refl

    module _ (due : Bool) (was now : PartTable) (goes : now ≡ toward_at c n s st hop) where
      pub told_is : (new : Bool) → new ≡ not (same_parts was now) → told_parts c n lane asked new due (ask_of st now) ≡ told_seen c n lane asked due was
      unfolding told_parts told_seen toward_at
      told_is new is =
          let new_is : new ≡ not (same_parts was (toward_at c n s st hop)) = is ∙ ap (λ v. not (same_parts was v)) goes in
          λ i. told_ask n.place (facts_of c n) lane asked (new_is i) due (ask_of st (goes i))

-- ---- no parts ask for nothing
pub nothing_asked : (st : StyleKind) → ask_of st empty ≡ None
nothing_asked Wild = refl
nothing_asked Fixed = refl
nothing_asked Shared = refl

-- ---- where nothing was said nothing is torn down
pub nothing_torn : (c : ℕ) (n : State) (l : Lane) → [] ≡ torn_seen c n l empty
unfolding torn_seen
nothing_torn c n l = refl

-- ---- where nothing goes there nothing is told
pub nothing_told : (c : ℕ) (n : State) (s : Session) (st : StyleKind) (hop : NextHop) (asked : Option Addr) (due : Bool) (was : PartTable) → empty ≡ toward_at c n s st hop
    → [] ≡ told_seen c n (lane_of s st hop) asked due was
nothing_told c n s st hop asked due was goes = quiet (not (same_parts was empty)) due ∙ told_is c n s st hop asked due was empty goes (not (same_parts was empty)) refl
  where
    quiet : (new due : Bool) → [] ≡ told_parts c n (lane_of s st hop) asked new due (ask_of st empty)
    quiet true due = asked_none c n s st hop (wish_seen c n (lane_of s st hop) asked) due (ask_of st empty) (nothing_asked st) ∙ parts_new c n s st hop asked due (ask_of st empty)
    quiet false true = asked_none c n s st hop None true (ask_of st empty) (nothing_asked st) ∙ parts_due c n s st hop asked (ask_of st empty)
    quiet false false = parts_old c n s st hop asked (ask_of st empty)
