-- A want that was kept: the rules of its line, and what it adds.
use Rattle.std.specs.Prelude.{◌≡◌, ◌≢◌, ℕ, ◌≤◌, ◌<◌, ◌++◌, ◌∷◌, [], List, Result, Ok, Err, OnOk, length, map as each}
use Rattle.std.proofs.Common.{arith, refl, subst}
use Rattle.std.proofs.lemmas.List.{length-map}
use Rattle.rsvp_base.specs.Orders.{Names}
use Rattle.rsvp_base.specs.Table.{size}
use Rattle.rsvp_base.specs.TokenBucket.{TokenBucket}
use Rattle.rsvp_base.specs.declared.session.Session.{Session}
use Rattle.rsvp_base.specs.declared.style.StyleKind.{StyleKind}
use Rattle.rsvp_base.specs.declared.style.StyleKind.TheVariants.{Wild, Fixed, Shared}
use Rattle.router_rules.specs.Inputs.{WantAs}
use Rattle.router_rules.specs.Steps.{IsFitList}
use Rattle.tree_model.specs.declared.locals.LocalWant.{LocalWant}
use Rattle.network_model.specs.Events.{AtNode}
use Rattle.script_words.specs.Flows.{flow_value}
use Rattle.script_words.specs.Sessions.{sender_value, session_value}
use Rattle.script_words.specs.declared.raw.SenderWord.{SenderWord}
use Rattle.script_rules.proofs.Named.{some_named}
use Rattle.script_rules.specs.WantForms.{IsWantForm}
use Rattle.script_grammar.specs.Adds.{Adds, wanted, wants_at, with_wants}
use Rattle.script_grammar.specs.Draft.{Draft, node_number, with_session}
use Rattle.script_grammar.specs.Rules.{AreDistinct, HasRoomForSession, IsNode, IsOfWantedStyle, Keeps, KeepsAll, sender_list}
use Rattle.script_grammar.specs.Values.{IsWantInRange, senders_value}
use Rattle.script_grammar.specs.declared.line.ScriptLine.TheVariants as line
use Rattle.script_grammar.specs.declared.line.WantLine.{WantLine}

-- what is wanted by whom, as it was read
abbrev pub Read : Type 0
Read = ℕ × (Session × (Names × TokenBucket))

module _ (d : Draft) (l : WantLine) where
  abbrev pub value : Read
  value = (node_number d l.node, (session_value l.session, (senders_value l.senders, flow_value l.flow)))

  -- there is room for it, with these wants
  pub record Fits (r : Read) (wants : List LocalWant) : Type 0 where
    pub few : size r.1.1.0 ≤ 16
    pub session : HasRoomForSession d r.1.0
    pub wants_are : wants ≡ with_wants d.locals.wants (wanted r.0 r.1.0 l.style r.1.1.0 r.1.1.1)
    pub units : length (wants_at wants r.0 r.1.0) ≤ 16

  abbrev pub with_it : Read → List LocalWant → Draft
  with_it r wants = record d {
    sessions = with_session d.sessions r.1.0;
    locals = record { senders = d.locals.senders; wants = wants };
    events = d.events ++ AtNode r.0 (WantAs r.1.0 l.style r.1.1.0 r.1.1.1 l.confirm) ∷ [];
  }

  module _ (in_range : IsWantInRange l) (known : IsNode d l.node) (distinct : AreDistinct (sender_list l.senders)) (of_style : IsOfWantedStyle d l) where
    kept : (wants : List LocalWant) → Fits value wants → (new : Draft) → new ≡ with_it value wants → KeepsAll (Keeps d (line.Want l)) × Adds d (line.Want l) new
    kept wants fits new adds = (
      record {
        in_time = tt;
        in_range = in_range;
        known = known;
        new = distinct;
        of_style = of_style;
        within_limits = record { few_senders = fits.few; session = fits.session; few_units = subst (λ (ws : List LocalWant). length (wants_at ws value.0 value.1.0) ≤ 16) fits.wants_are fits.units };
        of_tree = tt;
        within_capacity = tt;
        loop_free = tt;
      },
      subst (λ (ws : List LocalWant). new ≡ with_it value ws) fits.wants_are adds,
    )

    pub want_kept : {A E : Type 0} (r : Result A E) (read : Read) → read ≡ value → (wants : List LocalWant) → Fits read wants → (new : Draft) → OnOk r (new ≡ with_it read wants)
        → OnOk r (KeepsAll (Keeps d (line.Want l)) × Adds d (line.Want l) new)
    want_kept (Ok a) read is wants fits new adds = kept wants (subst (λ (v : Read). Fits v wants) is fits) new (subst (λ (v : Read). new ≡ with_it v wants) is adds)
    want_kept (Err e) read is wants fits new adds = tt

-- what a want names is a list that a call may have
pub fit_list : (st : StyleKind) (words : List SenderWord) → IsWantForm st words → size (senders_value words) ≤ 16 → IsFitList st (senders_value words)
fit_list Wild words form few = tt
fit_list Fixed words form few = tt
fit_list Shared words form few = let size = length-map words sender_value in (some_named (each sender_value words) (omega (arith, form, size)), few)

-- ---- a list with something in it
pub some_there : {A : Type 0} (xs : List A) → xs ≢ [] → 0 < length xs
some_there [] some = absurd (some refl)
some_there (x ∷ xs) some = omega arith

pub there_some : {A : Type 0} (xs : List A) → 0 < length xs → xs ≢ []
there_some [] lt = absurd (omega (arith, lt))
there_some (x ∷ xs) lt = λ e. cc
