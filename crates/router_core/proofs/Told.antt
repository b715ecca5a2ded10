-- The tables of a node once an input was tried, and once its neighbours were told.
use Rattle.std.specs.Prelude.{◌≡◌, [], Bool, true, false, cond, length, ◌≤◌, Result, Ok, Err, OnErr}
use Rattle.std.proofs.Common.{ap, sym, subst, ◌∙◌}
use Rattle.rsvp_base.specs.Orders.{sessions}
use Rattle.rsvp_base.specs.Table.{empty, get, has}
use Rattle.rsvp_base.specs.declared.session.Sender.{Sender}
use Rattle.rsvp_base.specs.declared.session.Session.{Session}
use Rattle.std.specs.Ordering.{eq_by_cmp}
use Rattle.rsvp_base.specs.declared.style.StyleKind.{StyleKind}
use Rattle.rsvp_base.specs.declared.style.StyleKind.TheVariants.{Wild, Fixed, Shared}
use Rattle.style_rules.specs.Lines.{LineKey}
use Rattle.style_rules.specs.Targets.{WallKey}
use Rattle.router_rules.specs.Facts.{WantKey}
use Rattle.router_state.specs.State.{IsSaid, IsSettled, Said, State, table_in}
use Rattle.laws_sends.specs.Changed.{IsChangedFor}
use Rattle.router_state.specs.Whole.{IsBooked, IsOfPlace, state_of}
use Rattle.router_state.specs.declared.tables.Tables.{Tables}
use Rattle.router_rounds.specs.Steps.{AreSound}

-- the tables once an input was tried, with what was said
module _ (t : Tables) (said : Said) (b : Bool) (w n : State) (is : state_of t empty ≡ cond b w n) where
  pub not_tried : b ≡ false → state_of t said ≡ record n { said = said }
  not_tried off = ap (λ (z : State). record z { said = said }) (is ∙ ap (λ x. cond x w n) off)

  pub tried : b ≡ true → state_of t said ≡ record w { said = said }
  tried on = ap (λ (z : State). record z { said = said }) (is ∙ ap (λ x. cond x w n) on)

-- ---- tables with other paths, local senders and countdowns
module _ (old new : Tables) (rest : new ≡ record old { senders = new.senders; paths = new.paths; due = new.due }) where
  pub still_sound : new.paths.dead.rows ≡ [] → AreSound old → AreSound new
  still_sound paths was = record {
    pulled = record {
      paths = paths;
      wild = ap (λ (t : Tables). t.wild.dead.rows) rest ∙ was.pulled.wild;
      fixed = ap (λ (t : Tables). t.fixed.dead.rows) rest ∙ was.pulled.fixed;
      shared = ap (λ (t : Tables). t.shared.dead.rows) rest ∙ was.pulled.shared;
    };
    booked = subst IsBooked (sym rest) was.booked;
    few = subst (λ (t : Tables). length t.book.ifaces ≤ 16) (sym rest) was.few;
  }

  pub still_of_place : IsOfPlace old → IsOfPlace new
  still_of_place was = subst IsOfPlace (sym rest) was

-- where they have other paths alone
pub paths_only : (old new : Tables) → new ≡ record old { paths = new.paths } → new ≡ record old { senders = new.senders; paths = new.paths; due = new.due }
paths_only old new rest = rest ∙ ap (λ (t : Tables). record old { senders = t.senders; paths = t.paths; due = t.due }) (sym rest)

-- ---- tables with other wants
module _ (old new : Tables) (rest : new ≡ record old { wants = new.wants }) where
  pub wants_sound : AreSound old → AreSound new
  wants_sound was = subst AreSound (sym rest) (record {
    pulled = record { paths = was.pulled.paths; wild = was.pulled.wild; fixed = was.pulled.fixed; shared = was.pulled.shared };
    booked = was.booked;
    few = was.few;
  })

  pub wants_of_place : IsOfPlace old → IsOfPlace new
  wants_of_place was = subst IsOfPlace (sym rest) was

  pub wants_settled : (said last : Said) → IsSettled (state_of old said) → IsSettled (state_of new last)
  wants_settled said last kept = subst (λ (t : Tables). IsSettled (state_of t last)) (sym rest) (record { counted = kept.counted; named = kept.named })

  pub wants_place : (said last : Said) → (state_of new last).place ≡ (state_of old said).place
  wants_place said last = ap (λ (t : Tables). t.config) rest

-- the session's alone
pub wants_changed : (old new : Tables) → new ≡ record old { wants = new.wants } → (s : Session) → ((j : WantKey) → eq_by_cmp sessions.cmp s j.0 ≡ false → get old.wants j ≡ get new.wants j)
    → (x : Sender) (said : Said)
    → IsChangedFor (s, x) (state_of old said) (state_of new said)
wants_changed old new rest s others x said = record {
  place = sym (ap (λ (t : Tables). t.config) rest);
  senders = λ j off. sym (ap (λ (t : Tables). get t.senders.tspecs j) rest);
  advertised = λ j off. sym (ap (λ (t : Tables). has t.senders.advertised j) rest);
  paths = λ j off. sym (ap (λ (t : Tables). get t.paths.facts j) rest);
  wants = others;
  walls = λ j off. sym (ap (λ (t : Tables). get t.walls j) rest);
  resvs = λ st q off. by st q;
}
  where
    by : (st : StyleKind) (q : LineKey) → get (table_in st (state_of old said)) q ≡ get (table_in st (state_of new said)) q
    by Wild q = sym (ap (λ (t : Tables). get t.wild.facts q) rest)
    by Fixed q = sym (ap (λ (t : Tables). get t.fixed.facts q) rest)
    by Shared q = sym (ap (λ (t : Tables). get t.shared.facts q) rest)

-- ---- tables with other blockades
module _ (old new : Tables) (rest : new ≡ record old { walls = new.walls }) where
  pub walls_sound : AreSound old → AreSound new
  walls_sound was = subst AreSound (sym rest) (record {
    pulled = record { paths = was.pulled.paths; wild = was.pulled.wild; fixed = was.pulled.fixed; shared = was.pulled.shared };
    booked = was.booked;
    few = was.few;
  })

pub walls_changed : (old new : Tables) → new ≡ record old { walls = new.walls } → (s : Session) → ((j : WallKey) → eq_by_cmp sessions.cmp s j.0 ≡ false → get old.walls j ≡ get new.walls j)
    → (x : Sender) (said : Said)
    → IsChangedFor (s, x) (state_of old said) (state_of new said)
walls_changed old new rest s others x said = record {
  place = sym (ap (λ (t : Tables). t.config) rest);
  senders = λ j off. sym (ap (λ (t : Tables). get t.senders.tspecs j) rest);
  advertised = λ j off. sym (ap (λ (t : Tables). has t.senders.advertised j) rest);
  paths = λ j off. sym (ap (λ (t : Tables). get t.paths.facts j) rest);
  wants = λ j off. sym (ap (λ (t : Tables). get t.wants j) rest);
  walls = others;
  resvs = λ st q off. by st q;
}
  where
    by : (st : StyleKind) (q : LineKey) → get (table_in st (state_of old said)) q ≡ get (table_in st (state_of new said)) q
    by Wild q = sym (ap (λ (t : Tables). get t.wild.facts q) rest)
    by Fixed q = sym (ap (λ (t : Tables). get t.fixed.facts q) rest)
    by Shared q = sym (ap (λ (t : Tables). get t.shared.facts q) rest)

-- ---- tables with other reservations
pub resvs_left_changed : (old new : Tables) → new ≡ record old { wild = new.wild; fixed = new.fixed; shared = new.shared; book = new.book } → (s : Session)
    → ((st : StyleKind) (q : LineKey) → eq_by_cmp sessions.cmp s q.0 ≡ false → get (table_in st (state_of old empty)) q ≡ get (table_in st (state_of new empty)) q) → (x : Sender) (said : Said)
    → IsChangedFor (s, x) (state_of old said) (state_of new said)
resvs_left_changed old new rest s others x said = record {
  place = sym (ap (λ (t : Tables). t.config) rest);
  senders = λ j off. sym (ap (λ (t : Tables). get t.senders.tspecs j) rest);
  advertised = λ j off. sym (ap (λ (t : Tables). has t.senders.advertised j) rest);
  paths = λ j off. sym (ap (λ (t : Tables). get t.paths.facts j) rest);
  wants = λ j off. sym (ap (λ (t : Tables). get t.wants j) rest);
  walls = λ j off. sym (ap (λ (t : Tables). get t.walls j) rest);
  resvs = λ st q off. by st q (others st q off);
}
  where
    by : (st : StyleKind) (q : LineKey) → get (table_in st (state_of old empty)) q ≡ get (table_in st (state_of new empty)) q
        → get (table_in st (state_of old said)) q ≡ get (table_in st (state_of new said)) q
    by Wild q e = e
    by Fixed q e = e
    by Shared q e = e

-- ---- tables that did not change
pub unchanged_node : (old new : Tables) (said : Said) → new ≡ old → AreSound old → IsSettled (state_of old said) → IsSaid said (state_of old said) → IsOfPlace old
    → AreSound new × (IsSettled (state_of new said) × (IsSaid said (state_of new said) × (IsOfPlace new × Unit {0})))
unchanged_node old new said same sound kept told place = (
  subst AreSound (sym same) sound,
  (
    subst (λ (t : Tables). IsSettled (state_of t said)) (sym same) kept,
    (
      subst (λ (t : Tables). IsSaid said (state_of t said)) (sym same) told,
      (subst IsOfPlace (sym same) place, tt),
    ),
  ),
)

-- ---- what holds whatever is answered
pub on_err : {X E P : Type 0} (r : Result X E) → P → OnErr r P
on_err (Ok x) p = tt
on_err (Err e) p = p
