-- Names leave reservations (RFC 2209, 2: ResvTear; RFC 2205, 3.1.6): what is left of each, and whether one had them.
use Rattle.std.specs.Prelude.{ℕ, Bool, false, cond, not, ◌&&◌, [], ◌∷◌, Option, Some, None}
use Rattle.std.specs.List.{list_any}
use Rattle.std.specs.Option.{option_map}
use Rattle.std.specs.Ordering.{eq_by_cmp}
use Rattle.rsvp_base.specs.Orders.{Names, sessions}
use Rattle.rsvp_base.specs.Sets.{set_of, cut, is_none}
use Rattle.rsvp_base.specs.Table.{has}
use Rattle.rsvp_base.specs.declared.part.Part.{Part}
use Rattle.rsvp_base.specs.declared.session.Sender.{Sender}
use Rattle.rsvp_base.specs.declared.session.Session.{Session}
use Rattle.style_rules.specs.Lines.{LineKey, NextHop, line_keys, is_of_hop}
use Rattle.style_rules.specs.Parts.{part_kept}
use Rattle.resv_state.specs.declared.fact.Held.{Held}
use Rattle.resv_state.specs.declared.fact.ResvFact.{ResvFact}
use Rattle.resv_state.specs.Resvs.{ResvFacts}

-- a name stays where it is not among those that go
abbrev pub stays : Names → Sender → Bool
stays gone x = not (has gone x)

-- what is left of a reservation, with as long to live, if a name is left
abbrev pub with_part : ResvFact × ℕ → Part → ResvFact × ℕ
with_part e p = (record e.0 { part = p }, e.1)

abbrev pub left_of : Names → ResvFact × ℕ → Option (ResvFact × ℕ)
left_of gone e = option_map (with_part e) (part_kept (stays gone) e.0.part)

-- a part has one of the names
abbrev pub has_one : Names → Part → Bool
has_one gone p = not (is_none (cut p.senders gone))

-- ---- of a session's next hop
abbrev pub torn : Session → NextHop → Names → LineKey → ResvFact × ℕ → Option (ResvFact × ℕ)
torn s hop gone k e = cond (is_of_hop s hop k) (left_of gone e) (Some e)

abbrev pub hop_has_one : Session → NextHop → Names → ResvFacts → Bool
hop_has_one s hop gone m = list_any (λ e. is_of_hop s hop e.0 && has_one gone e.1.0.part) m.rows

-- ---- of a session
abbrev pub forgotten : Session → Sender → LineKey → ResvFact × ℕ → Option (ResvFact × ℕ)
forgotten s name k e = cond (eq_by_cmp sessions.cmp s k.0) (left_of (set_of (name ∷ [])) e) (Some e)

-- ---- of one key
abbrev pub lessened : LineKey → Names → LineKey → ResvFact × ℕ → Option (ResvFact × ℕ)
lessened at gone k e = cond (eq_by_cmp line_keys.cmp k at) (left_of gone e) (Some e)

abbrev pub key_has_one : Names → Option (ResvFact × ℕ) → Bool
key_has_one gone None = false
key_has_one gone (Some e) = has_one gone e.0.part

-- ---- how a table keeps them
abbrev pub held_with : Held → Part → Held
held_with h p = record h { fact = record h.fact { part = p } }

abbrev pub held_left : Names → Held → Option Held
held_left gone h = option_map (held_with h) (part_kept (stays gone) h.fact.part)

abbrev pub held_lessened : LineKey → Names → LineKey → Held × ℕ → Option (Held × ℕ)
held_lessened at gone k e = cond (eq_by_cmp line_keys.cmp k at) (option_map (λ h. (h, e.1)) (held_left gone e.0)) (Some e)

abbrev pub held_has_one : Names → Option (Held × ℕ) → Bool
held_has_one gone None = false
held_has_one gone (Some e) = has_one gone e.0.fact.part
