-- What is sent is proper.
use Rattle.std.specs.Prelude.{◌≡◌, ℕ, ◌≤◌, ◌<◌, ◌⊎◌, nat_lt, Bool, true, false, cond, not, List, [], ◌∷◌, ◌++◌, map as each, Option, Some, None, slice_get, refl}
use Rattle.std.proofs.Common.{sym, ap, subst, ◌∙◌, inl, ⊎_elim, arith}
use Rattle.std.proofs.lemmas.Bool.{ltb-true}
use Rattle.std.specs.List.{flat_map, list_any}
use Rattle.std.specs.Option.{option_map}
use Rattle.std.specs.Ordering.{eq_by_cmp}
use Rattle.router_rules.proofs.AdspecPath.Proper.{what_is_composed_can_be_written}
use Rattle.rsvp_base.specs.declared.addr.Addr.{Addr}
use Rattle.rsvp_base.specs.declared.iface.Iface.{Iface}
use Rattle.rsvp_base.specs.declared.part.Part.{Part}
use Rattle.rsvp_base.specs.declared.session.Sender.{Sender}
use Rattle.rsvp_base.specs.declared.style.StyleKind.{StyleKind}
use Rattle.rsvp_base.specs.declared.style.StyleKind.TheVariants.{Wild, Fixed, Shared}
use Rattle.rsvp_base.specs.declared.style.Unit.{Unit as UnitOf}
use Rattle.rsvp_base.specs.declared.style.Unit.TheVariants.{One, Of}
use Rattle.rsvp_base.specs.Members.{In}
use Rattle.rsvp_base.specs.Orders.{Names, senders, units}
use Rattle.rsvp_base.specs.Sets.{IsWithin, cut, is_none}
use Rattle.rsvp_base.specs.Table.{empty, get, has, keys, kept, size, values}
use Rattle.rsvp_base.specs.TokenBucket.{TokenBucket, IsSound}
use Rattle.rsvp_base.proofs.Counts.{in_found}
use Rattle.rsvp_base.proofs.Members.{in_append, in_each, in_filter, in_right}
use Rattle.rsvp_base.proofs.SetLaws.{and_both, has-cut, has-kept, size_within}
use Rattle.rsvp_messages.specs.declared.ask.Ask.{Ask}
use Rattle.rsvp_messages.specs.declared.ask.Ask.TheVariants as ask
use Rattle.rsvp_messages.specs.declared.message.Message.{Message}
use Rattle.rsvp_messages.specs.declared.message.Message.TheVariants as message
use Rattle.rsvp_messages.specs.declared.fault.MsgErr.{MsgErr}
use Rattle.rsvp_messages.specs.declared.message.PathErrMsg.{PathErrMsg}
use Rattle.rsvp_messages.specs.declared.message.ResvConfMsg.{ResvConfMsg}
use Rattle.rsvp_messages.specs.declared.message.ResvErrMsg.{ResvErrMsg}
use Rattle.rsvp_messages.specs.declared.message.ResvMsg.{ResvMsg}
use Rattle.rsvp_messages.specs.Proper.{HasNoScope, IsProper, IsProperAsk, IsProperBlameOf, IsProperTear, IsScope, WhereThere}
use Rattle.rsvp_messages.specs.RsvpObjects.AdspecLaws.{IsAdspec}
use Rattle.rsvp_messages.specs.RsvpObjects.declared.adspec.Adspec.{Adspec}
use Rattle.rsvp_messages.specs.Units.{AskedUnit, ask_style, asked_units, fixed_unit}
use Rattle.style_rules.proofs.Lattice.{sound_join, sound_meet}
use Rattle.style_rules.specs.CutLaws.{cut_flow, made_named, made_of, some_name}
use Rattle.style_rules.specs.Lines.{LineKey, NextHop}
use Rattle.style_rules.specs.Merge.{PartTable, all_by}
use Rattle.style_rules.specs.Parts.{IsOfStyle, has_name, part_join, part_meet, part_of}
use Rattle.rsvp_base.specs.Styles.{name_of}
use Rattle.style_rules.specs.Toward.{Request, open_of, or_else, parts_of, request_unit, requests_at}
use Rattle.style_rules.proofs.Claims.{merge_keeps_the_style}
use Rattle.style_rules.proofs.Folds.{all_keeps}
use Rattle.style_rules.proofs.Merges.{get-table_at, in_those}
use Rattle.style_rules.proofs.StyleLaws.{cut_of_style, fixed_parts, wild_parts}
use Rattle.router_rules.specs.declared.answers.Heard.TheVariants as heard
use Rattle.router_rules.specs.declared.answers.Why.TheVariants as why
use Rattle.router_rules.specs.Act.{act, act_spelt, is_mine}
use Rattle.router_rules.specs.Asking.{Asker, act_resv, ask_of, ask_of_part, asker_of, asked_of, flow_at, flows_by_sender, lost, matched, names_that_match, nothing_taken, refusal}
use Rattle.router_rules.specs.Asking.{style_conflict, taking, taking_of, unmatched, Nobody, These, as_listed}
use Rattle.router_rules.specs.Bounds.{IsWantShape, IsWantShaped, IsWithinBounds}
use Rattle.router_rules.specs.Confirming.{confs_heard, confs_on}
use Rattle.router_rules.specs.Errors.{blamed, errors_on, lane_of, path_err, path_err_on, replied, reply_to}
use Rattle.router_rules.specs.Facts.{Facts, PathState, ResvState, Want, WantKey, resvs_of}
use Rattle.router_rules.specs.Inputs.{Asked, Call, Came, Clear, ConfSend, ErrSend, Input, Moved, Send, Spelt, Unspelt, Wait}
use Rattle.router_rules.specs.Known.{Lane, known, named_as, names_via, names_via_where, via}
use Rattle.router_rules.specs.NodeConfig.{NodeConfig, goes_out, is_own}
use Rattle.router_rules.specs.Offers.{advert_by, advert_of, own_advert}
use Rattle.router_rules.specs.declared.advert.Advert.{Advert}
use Rattle.router_rules.specs.Requests.{requests, toward, want_part}
use Rattle.router_rules.specs.Rule.{settled}
use Rattle.router_rules.specs.Sends.{conf_for, confirmed, error_message, goes_on, gone_names, tear_of, told_at, without_scope}
use Rattle.laws_bounds.specs.FactLaws.{IsResvRequest, IsWantRequest}
use Rattle.laws_bounds.specs.SendLaws.{IsConf, IsError, IsPath, IsPathTear, IsResv, IsResvTear}
use Rattle.laws_bounds.proofs.Lists.{passed, some_same}
use Rattle.laws_bounds.proofs.Requesting.{request_told, requests_and_toward}
use Rattle.laws_bounds.proofs.Ruling.{rule_in_parts}
use Rattle.laws_bounds.specs.AskLaws.{IsBookRefusal, IsLoss, IsTaken}
use Rattle.laws_bounds.specs.ErrorLaws.{IsPathReply, IsResvReply}
use Rattle.laws_bounds.proofs.Answering.{faults_by_hint}
use Rattle.laws_bounds.proofs.Receiving.{conf_told}
use Rattle.laws_bounds.proofs.Erring.{errors_once_each}
use Rattle.laws_bounds.proofs.Wholes.{takes_told, errors_told as unit_errors_told}
use Rattle.laws_bounds.specs.Sources.{IsLocalOffer, IsPathOffer}
use Rattle.router_rules.specs.Steps.{IsFit, clock_after, facts_then, sent_then}
use Rattle.laws_bounds.proofs.Stepping.{offer_of, offer_source, send_told}
use Rattle.laws_bounds.specs.ProperLaws.{WhatIsSentIsProper}
use Rattle.laws_bounds.proofs.Bounded.{kept_within, same_node}
use Rattle.laws_bounds.proofs.Folding.{IsUnitShape, names_listed, unit_shape}
use Rattle.laws_bounds.proofs.Blame.{never_nobody, one_list, sent_listing, these_are}

-- ---- names of a style
scope_of : (names : Names) → ((x : Sender) → has names x ≡ true → name_of Wild x ≡ x) → IsScope names
scope_of names listed x e = sym (ap (λ (z : Sender). z.port) (listed x e))

-- a part of a style with a sound flow can be blamed
style_blame : (st : StyleKind) (part : Part) → IsOfStyle st part → IsSound part.flow → IsProperBlameOf st (Some part.senders) (Some part.flow)
style_blame Wild part is sound = (scope_of part.senders is.listed, sound)
style_blame Fixed part is sound = ((fixed_parts part).0 is, sound)
style_blame Shared part is sound = (some_named part is.named, sound)
  where
    off : (b : Bool) → not b ≡ true → b ≡ false
    off true e = cc
    off false e = refl

    some_named : (part : Part) → has_name part ≡ true → 0 < size part.senders
    some_named part e = some_name part.senders (off (is_none part.senders) e)

-- some of one name are that one
still_one : (s t : Names) → IsWithin s t → size t ≡ 1 → is_none s ≡ false → size s ≡ 1
still_one s t less one some = let few = size_within senders s t less in let more = some_name s some in omega (arith, one, few, more)

-- ---- units of an Ask
unit_blame : (a : Ask) → IsProperAsk a → (u : AskedUnit) → In u (asked_units a) → IsProperBlameOf (ask_style a) u.names (Some u.flow)
unit_blame (ask.Wild scope flow) proper u i =
    ⊎_elim (λ (is : u ≡ record { unit = One; names = scope; flow = flow }). subst (λ (z : AskedUnit). IsProperBlameOf Wild z.names (Some z.flow)) (sym is) (proper.scope_is, proper.flow_is))
    (λ (n : ⊥). absurd n) i
unit_blame (ask.Fixed list) proper u i =
    let r = in_each fixed_unit u list.rows i in
    subst (λ (z : AskedUnit). IsProperBlameOf Fixed z.names (Some z.flow)) (sym r.2) (refl, proper.flows r.0.0 r.0.1 (in_found senders list r.0.0 r.0.1 r.1))
unit_blame (ask.Shared part) proper u i =
    ⊎_elim (λ (is : u ≡ record { unit = One; names = Some part.senders; flow = part.flow }). subst (λ (z : AskedUnit). IsProperBlameOf Shared z.names (Some z.flow)) (sym is)
    (proper.some, proper.flow)) (λ (n : ⊥). absurd n) i

-- ---- those who do not match
rest_of : (ns all : Names) (names : Option Names) → unmatched (Some ns) all ≡ as_listed names → (names ≡ Some (kept (λ x. not (has all x)) ns)) × (is_none (kept (λ x. not (has all x)) ns) ≡ false)
rest_of ns all names e = by (is_none (kept (λ x. not (has all x)) ns)) refl e
  where
    by : (b : Bool) → is_none (kept (λ x. not (has all x)) ns) ≡ b → cond b Nobody (These (kept (λ x. not (has all x)) ns)) ≡ as_listed names
        → (names ≡ Some (kept (λ x. not (has all x)) ns)) × (is_none (kept (λ x. not (has all x)) ns) ≡ false)
    by true is e = never_nobody names e
    by false is e = (these_are names (kept (λ x. not (has all x)) ns) e, is)

rest_within : (ns all : Names) → IsWithin (kept (λ x. not (has all x)) ns) ns
rest_within ns all x e = (and_both _ _ (sym (has-kept senders (λ x. not (has all x)) ns x) ∙ e)).0

lost_blame : (st : StyleKind) (given : Option Names) (all : Names) (flow : TokenBucket) (names : Option Names) → IsProperBlameOf st given (Some flow) → lost st given all ≡ as_listed names
    → IsProperBlameOf st names (Some flow)
lost_blame Wild given all flow names h e = subst (λ z. IsProperBlameOf Wild z (Some flow)) (by (is_none (names_that_match given all)) e) h
  where
    by : (b : Bool) → cond b (as_listed given) Nobody ≡ as_listed names → given ≡ names
    by true e = one_list given names e
    by false e = never_nobody names e
lost_blame Fixed None all flow names h e = absurd h
lost_blame Fixed (Some ns) all flow names h e =
    let r = rest_of ns all names e in subst (λ z. IsProperBlameOf Fixed z (Some flow)) (sym r.0) (still_one (kept (λ x. not (has all x)) ns) ns (rest_within ns all) h.0 r.1, h.1)
lost_blame Shared None all flow names h e = absurd h
lost_blame Shared (Some ns) all flow names h e = let r = rest_of ns all names e in subst (λ z. IsProperBlameOf Shared z (Some flow)) (sym r.0) (some_name (kept (λ x. not (has all x)) ns) r.1, h.1)

-- ---- errors of a Resv
abbrev IsProperError : ErrSend → Type 0
IsProperError e = IsProper (error_message e.error)

unit_among : (us front back : List AskedUnit) (u : AskedUnit) → us ≡ front ++ u ∷ back → In u us
unit_among us front back u is = subst (λ zs. In u zs) (sym is) (in_right u front (u ∷ back) (inl refl))

module _ (p : NodeConfig) (c e : ℕ) (m : ResvMsg) (f : Facts) (proper : IsProperAsk m.ask) where
  abbrev o : Asker
  o = asker_of p c e m

  shape_at : (u : AskedUnit) → In u (asked_units m.ask) → (part : Part) → part_of (names_that_match u.names (matched p f o)) u.flow ≡ Some part → IsUnitShape o.style u.unit part
  shape_at u i part is = unit_shape m.ask proper (matched p f o) (λ x h. names_listed o.style (kept (goes_out p o.session o.iface) (known f o.session)) x h) u i part is

  refused_alike : (code value : ℕ) (x : ErrSend) → In x (each (λ (u : AskedUnit). refusal p o false code value u.names u.flow) (asked_units m.ask)) → IsProperError x
  refused_alike code value x i =
      let r = in_each (λ (u : AskedUnit). refusal p o false code value u.names u.flow) x (asked_units m.ask) i in subst IsProperError (sym r.2) (unit_blame m.ask proper r.0 r.1)

  taking_errors : (b : Bool) (other : Option StyleKind) (x : ErrSend) → In x (taking_of p o (asked_units m.ask) f b other).errors → IsProperError x
  taking_errors true other x i = refused_alike 3 0 x i
  taking_errors false (Some other) x i = refused_alike 5 _ x i
  taking_errors false None x i =
      ⊎_elim
      (λ (n : ⊥). absurd n)
      (λ (h : IsLoss p o f (matched p f o) (asked_units m.ask) x ⊎ IsBookRefusal p o f (matched p f o) (nothing_taken (resvs_of o.style f) []) (asked_units m.ask) x).
      ⊎_elim
      (λ (l : IsLoss p o f (matched p f o) (asked_units m.ask) x). subst IsProperError (sym l.is)
      (lost_blame o.style l.unit.names (matched p f o) l.unit.flow l.names (unit_blame m.ask proper l.unit l.asks) l.lost))
      (λ (r : IsBookRefusal p o f (matched p f o) (nothing_taken (resvs_of o.style f) []) (asked_units m.ask) x).
      let s = shape_at r.unit (unit_among (asked_units m.ask) r.tried.at.front r.tried.at.back r.unit r.tried.at.split) r.part r.tried.some in
      subst IsProperError (sym r.is) (style_blame o.style r.part s.style s.flow))
      h)
      (unit_errors_told p o f (matched p f o) (nothing_taken (resvs_of o.style f) []) (asked_units m.ask) x i)

  pub resv_errors : (x : ErrSend) → In x (act_resv p c e m f).errors → IsProperError x
  resv_errors x i = taking_errors (is_none (known f m.session)) (style_conflict f m.session (ask_style m.ask)) x i

-- ---- errors that go on
some_none : (st : StyleKind) (given : Names) (all : Names) (names : Option Names) → blamed st (Some given) all ≡ as_listed names → (names ≡ Some (cut all given)) × (is_none (cut all given) ≡ false)
some_none st given all names e = by (is_none (cut all given)) refl (as_cond st ∙ e)
  where
    as_cond : (st : StyleKind) → cond (is_none (cut all given)) Nobody (These (cut all given)) ≡ blamed st (Some given) all
    as_cond Wild = refl
    as_cond Fixed = refl
    as_cond Shared = refl

    by : (b : Bool) → is_none (cut all given) ≡ b → cond b Nobody (These (cut all given)) ≡ as_listed names → (names ≡ Some (cut all given)) × (is_none (cut all given) ≡ false)
    by true is e = never_nobody names e
    by false is e = (these_are names (cut all given) e, is)

cut_in : (all given : Names) → IsWithin (cut all given) all
cut_in all given x e = (and_both _ _ (sym (has-cut senders all given x) ∙ e)).0

blamed_proper : (st : StyleKind) (given : Option Names) (part : Part) (flow : Option TokenBucket) (names : Option Names) → IsOfStyle st part → IsProperBlameOf st given flow
    → blamed st given part.senders ≡ as_listed names → IsProperBlameOf st names flow
blamed_proper Wild (Some ns) part flow names is h e =
    let r = some_none Wild ns part.senders names e in
    subst (λ z. IsProperBlameOf Wild z flow) (sym r.0) (scope_of (cut part.senders ns) (λ x g. is.listed x (cut_in part.senders ns x g)), h.1)
blamed_proper Wild None part flow names is h e = subst (λ z. IsProperBlameOf Wild z flow) (sym (these_are names part.senders e)) (scope_of part.senders is.listed, h.1)
blamed_proper Fixed (Some ns) part None names is h e = absurd h
blamed_proper Fixed (Some ns) part (Some flow) names is h e =
    let r = some_none Fixed ns part.senders names e in
    subst (λ z. IsProperBlameOf Fixed z (Some flow)) (sym r.0) (still_one (cut part.senders ns) part.senders (cut_in part.senders ns) ((fixed_parts part).0 is) r.1, h.1)
blamed_proper Fixed None part flow names is h e = subst (λ z. IsProperBlameOf Fixed z flow) (one_list None names e) h
blamed_proper Shared (Some ns) part None names is h e = absurd h
blamed_proper Shared (Some ns) part (Some flow) names is h e =
    let r = some_none Shared ns part.senders names e in subst (λ z. IsProperBlameOf Shared z (Some flow)) (sym r.0) (some_name (cut part.senders ns) r.1, h.1)
blamed_proper Shared None part flow names is h e = subst (λ z. IsProperBlameOf Shared z flow) (one_list None names e) h

error_proper : (p : NodeConfig) (f : Facts) (l : Lane) (m : ResvErrMsg) → l.style ≡ m.blame.style → IsProper (message.ResvErr m)
    → ((st : StyleKind) (k : LineKey) (r : ResvState) → get (resvs_of st f) k ≡ Some r → IsOfStyle st r.part) → (x : ErrSend) → In x (errors_on p f l m) → IsProperError x
error_proper p f l m same proper shaped x i =
    let r = (errors_once_each.exactly p f l m x).0 i in
    let q = r.spoken in
    let is = some_same _ (r.hop, x) (sym (sent_listing p m r.hop r.names) ∙ r.is) in
    let blames : blamed m.blame.style m.blame.senders q.resv.part.senders ≡ as_listed r.names = ap (λ st. blamed st m.blame.senders q.resv.part.senders) (sym same) ∙ q.blames in
    let style : IsOfStyle m.blame.style q.resv.part = subst (λ st. IsOfStyle st q.resv.part) same (shaped l.style (l.session, (r.hop, r.unit)) q.resv q.there) in
    subst (λ (z : NextHop × ErrSend). IsProperError z.1) is (blamed_proper m.blame.style m.blame.senders q.resv.part m.blame.flow r.names style proper blames)

-- ---- errors of each input
module _ (p : NodeConfig) (c : ℕ) (f : Facts) (shaped : (st : StyleKind) (k : LineKey) (r : ResvState) → get (resvs_of st f) k ≡ Some r → IsOfStyle st r.part) where
  path_err_proper : (e : ℕ) (m : PathErrMsg) (o : Option Sender) (x : ErrSend) → In x (path_err p e m o f).0 → IsProperError x
  path_err_proper e m None x i = absurd i
  path_err_proper e m (Some s) x i = by (goes_out p m.session e s) i
    where
      on : (b : Bool) (w : Option PathState) → In x (path_err_on m b w).0 → IsProperError x
      on true w i = absurd i
      on false None i = absurd i
      on false (Some y) i = ⊎_elim (λ (is : x ≡ _). subst IsProperError (sym is) tt) (λ (n : ⊥). absurd n) i

      by : (b : Bool) → In x (cond b (path_err_on m (has f.senders (m.session, s)) (get f.paths (m.session, s))) ([], heard.Dropped why.NotOutward)).0 → IsProperError x
      by true i = on _ _ i
      by false i = absurd i

  spelt_errors : (e : ℕ) (m : Message) (b : Bool) → IsProper m → (x : ErrSend) → In x (act_spelt p c e m b f).errors → IsProperError x
  spelt_errors e m false proper x i = absurd i
  spelt_errors e (message.Path m) true proper x i = absurd i
  spelt_errors e (message.Resv m) true proper x i = resv_errors p c e m f proper x i
  spelt_errors e (message.PathErr m) true proper x i = path_err_proper e m m.sender x i
  spelt_errors e (message.PathTear m) true proper x i = absurd i
  spelt_errors e (message.ResvTear m) true proper x i = absurd i
  spelt_errors e (message.ResvConf m) true proper x i = absurd i
  spelt_errors e (message.ResvErr m) true proper x i = by _ i
    where
      by : (b : Bool) → In x (cond b (errors_on p (act_spelt p c e (message.ResvErr m) true f).facts (lane_of e m) m) []) → IsProperError x
      by true i = error_proper p (act_spelt p c e (message.ResvErr m) true f).facts (lane_of e m) m refl proper shaped x i
      by false i = absurd i

  unspelt_errors : (e : ℕ) (dst : Addr) (m : MsgErr) (x : ErrSend) → In x (act p c (Came e dst (Unspelt m)) f).errors → IsProperError x
  unspelt_errors e dst m x i = by (reply_to p e dst m) refl i
    where
      none_blamed : (st : StyleKind) → IsProperBlameOf st None None
      none_blamed Wild = (tt, tt)
      none_blamed Fixed = tt
      none_blamed Shared = tt

      by : (w : Option ErrSend) → reply_to p e dst m ≡ w → In x (replied w).0 → IsProperError x
      by None is i = absurd i
      by (Some y) is i =
          ⊎_elim (λ (same : x ≡ y).
          ⊎_elim (λ (r : IsPathReply p e dst m y). subst IsProperError (sym (same ∙ r.is)) tt) (λ (r : IsResvReply p e dst m y). subst IsProperError (sym (same ∙ r.is)) (none_blamed r.style))
          ((faults_by_hint.reply p e dst m y).0 is))
          (λ (n : ⊥). absurd n)
          i

  pub errors_proper : (i : Input) → IsFit p i → (x : ErrSend) → In x (act p c i f).errors → IsProperError x
  errors_proper (Call l) fit x h = absurd h
  errors_proper (Wait ms word) fit x h = absurd h
  errors_proper Clear fit x h = absurd h
  errors_proper Moved fit x h = absurd h
  errors_proper (Came e dst (Unspelt m)) fit x h = unspelt_errors e dst m x h
  errors_proper (Came e dst (Spelt m)) fit x h = spelt_errors e m (is_mine p e dst m) fit.1 x h

-- ---- what is asked for with parts of a style
abbrev AreFine : StyleKind → PartTable → Type 0
AreFine st ps = (u : UnitOf) (part : Part) → get ps u ≡ Some part → IsOfStyle st part × IsSound part.flow

ask_proper : (st : StyleKind) (ps : PartTable) → AreFine st ps → (a : Ask) → ask_of st ps ≡ Some a → IsProperAsk a
ask_proper Wild ps fine a e = by (get ps One) refl e
  where
    by : (w : Option Part) → get ps One ≡ w → ask_of_part (λ part. ask.Wild (Some part.senders) part.flow) w ≡ Some a → IsProperAsk a
    by None is e = absurd (cc)
    by (Some part) is e = let g = fine One part is in subst IsProperAsk (some_same (ask.Wild (Some part.senders) part.flow) a e) (record { scope_is = scope_of part.senders g.0.listed; flow_is = g.1 })
ask_proper Shared ps fine a e = by (get ps One) refl e
  where
    by : (w : Option Part) → get ps One ≡ w → ask_of_part ask.Shared w ≡ Some a → IsProperAsk a
    by None is e = absurd (cc)
    by (Some part) is e = let g = fine One part is in let b = style_blame Shared part g.0 g.1 in subst IsProperAsk (some_same (ask.Shared part) a e) (record { some = b.0; flow = g.1 })
ask_proper Fixed ps fine a e =
    let t = passed (nat_lt 0 (size (flows_by_sender ps))) (Some (ask.Fixed (flows_by_sender ps))) a e in
    subst IsProperAsk (some_same (ask.Fixed (flows_by_sender ps)) a t.1) (record { some = ltb-true 0 (size (flows_by_sender ps)) t.0; flows = flows })
  where
    of_part : (s : Sender) (flow : TokenBucket) (w : Option Part) → get ps (Of s) ≡ w → option_map (λ (part : Part). part.flow) w ≡ Some flow → IsSound flow
    of_part s flow None is e = absurd (cc)
    of_part s flow (Some part) is e = subst IsSound (some_same part.flow flow e) (fine (Of s) part is).1

    flows : (s : Sender) (flow : TokenBucket) → get (flows_by_sender ps) s ≡ Some flow → IsSound flow
    flows s flow g =
        let ks : List Sender = flat_map (λ (part : Part). keys part.senders) (values ps) in
        let t = passed (list_any (eq_by_cmp senders.cmp s) ks) (flow_at ps s) flow (sym (get-table_at senders (flow_at ps) ks s) ∙ g) in of_part s flow (get ps (Of s)) refl t.1

no_scope : (a : Ask) → IsProperAsk a → IsProperAsk (without_scope a) × HasNoScope (without_scope a)
no_scope (ask.Wild scope flow) h = (record { scope_is = tt; flow_is = h.flow_is }, refl)
no_scope (ask.Fixed list) h = (h, tt)
no_scope (ask.Shared part) h = (h, tt)

-- ---- confirmations
taken_fine : (p : NodeConfig) (c e : ℕ) (m : ResvMsg) (f : Facts) → IsProperAsk m.ask → (b : Bool) (other : Option StyleKind)
    → AreFine (ask_style m.ask) (taking_of p (asker_of p c e m) (asked_units m.ask) f b other).taken
taken_fine p c e m f proper true other u part g = absurd (cc)
taken_fine p c e m f proper false (Some other) u part g = absurd (cc)
taken_fine p c e m f proper false None u part g =
    let o = asker_of p c e m in
    ⊎_elim
    (λ (n : None ≡ Some part). absurd (cc))
    (λ (t : IsTaken p (asker_of p c e m) f (matched p f (asker_of p c e m)) (nothing_taken (resvs_of (ask_style m.ask) f) []) (asked_units m.ask) u part).
    let s = shape_at p c e m f proper t.unit (unit_among (asked_units m.ask) t.tried.at.front t.tried.at.back t.unit t.tried.at.split) part t.tried.some in (s.style, s.flow))
    (takes_told p (asker_of p c e m) f (matched p f (asker_of p c e m)) (nothing_taken (resvs_of (ask_style m.ask) f) []) (asked_units m.ask) u part g)

-- a wish is of what was taken, which is proper
abbrev IsProperWish : Option Asked → Type 0
IsProperWish w = (a : Asked) (taken : Ask) → w ≡ Some a → a.taken ≡ Some taken → IsProperAsk taken

asked_proper : (p : NodeConfig) (c e : ℕ) (m : ResvMsg) (f : Facts) → IsProperAsk m.ask → IsProperWish (act_resv p c e m f).asked
asked_proper p c e m f proper a taken is t = by m.confirm is
  where
    ps : PartTable
    ps = (taking p c e m f).taken

    by : (w : Option Addr) → asked_of (asker_of p c e m) (ask_of (ask_style m.ask) (taking p c e m f).taken) w ≡ Some a → IsProperAsk taken
    by None is = absurd (cc)
    by (Some z) is =
        ask_proper (ask_style m.ask) (taking p c e m f).taken (taken_fine p c e m f proper (is_none (known f m.session)) (style_conflict f m.session (ask_style m.ask))) taken
        (ap (λ (w : Asked). w.taken) (some_same _ a is) ∙ t)

no_wish : IsProperWish None
no_wish a taken is t = absurd (cc)

spelt_wish : (p : NodeConfig) (c e : ℕ) (m : Message) (b : Bool) (f : Facts) → IsProper m → IsProperWish (act_spelt p c e m b f).asked
spelt_wish p c e m false f proper = no_wish
spelt_wish p c e (message.Resv m) true f proper = asked_proper p c e m f proper
spelt_wish p c e (message.Path m) true f proper = no_wish
spelt_wish p c e (message.PathErr m) true f proper = no_wish
spelt_wish p c e (message.ResvErr m) true f proper = no_wish
spelt_wish p c e (message.PathTear m) true f proper = no_wish
spelt_wish p c e (message.ResvTear m) true f proper = no_wish
spelt_wish p c e (message.ResvConf m) true f proper = no_wish

wish_proper : (p : NodeConfig) (c : ℕ) (i : Input) (f : Facts) → IsFit p i → IsProperWish (act p c i f).asked
wish_proper p c (Call l) f fit = no_wish
wish_proper p c (Wait ms word) f fit = no_wish
wish_proper p c Clear f fit = no_wish
wish_proper p c Moved f fit = no_wish
wish_proper p c (Came e dst (Unspelt m)) f fit = no_wish
wish_proper p c (Came e dst (Spelt m)) f fit = spelt_wish p c e m (is_mine p e dst m) f fit.1

abbrev IsProperConf : ConfSend → Type 0
IsProperConf s = IsProper (message.ResvConf s.conf)

confs_on_proper : (m : ResvConfMsg) (f : Facts) (own : Bool) (x : ConfSend) → IsProper (message.ResvConf m) → In x (confs_heard own (confs_on m f)).0 → IsProperConf x
confs_on_proper m f own x proper i = by own (confs_on m f) (λ j. j) i
  where
    by : (b : Bool) (ss : List ConfSend) → (In x ss → In x (confs_on m f)) → In x (confs_heard b ss).0 → IsProperConf x
    by true ss all i = absurd i
    by false [] all i = absurd i
    by false (s ∷ ss) all i = let r = conf_told m f x (all i) in subst IsProperConf (sym r.is) proper

spelt_confs : (p : NodeConfig) (c e : ℕ) (m : Message) (b : Bool) (f : Facts) → IsProper m → (x : ConfSend) → In x (act_spelt p c e m b f).confs → IsProperConf x
spelt_confs p c e m false f proper x i = absurd i
spelt_confs p c e (message.ResvConf m) true f proper x i = confs_on_proper m f (is_own p m.confirm) x proper i
spelt_confs p c e (message.Resv m) true f proper x i = absurd i
spelt_confs p c e (message.Path m) true f proper x i = absurd i
spelt_confs p c e (message.PathErr m) true f proper x i = absurd i
spelt_confs p c e (message.ResvErr m) true f proper x i = absurd i
spelt_confs p c e (message.PathTear m) true f proper x i = absurd i
spelt_confs p c e (message.ResvTear m) true f proper x i = absurd i

act_confs : (p : NodeConfig) (c : ℕ) (i : Input) (f : Facts) → IsFit p i → (x : ConfSend) → In x (act p c i f).confs → IsProperConf x
act_confs p c (Call l) f fit x h = absurd h
act_confs p c (Wait ms word) f fit x h = absurd h
act_confs p c Clear f fit x h = absurd h
act_confs p c Moved f fit x h = absurd h
act_confs p c (Came e dst (Unspelt m)) f fit x h = absurd h
act_confs p c (Came e dst (Spelt m)) f fit x h = spelt_confs p c e m (is_mine p e dst m) f fit.1 x h

confirmed_proper : (old p : NodeConfig) (before after : Facts) (w : Option Asked) → IsProperWish w → (x : ConfSend) → In x (confirmed old p before after w) → IsProperConf x
confirmed_proper old p before after None h x i = absurd i
confirmed_proper old p before after (Some a) h x i = by (goes_on old p before after a) i
  where
    made : (t : Option Ask) → a.taken ≡ t → In x (conf_for p a t) → IsProperConf x
    made None is i = absurd i
    made (Some taken) is i = ⊎_elim (λ (same : x ≡ _). subst IsProperConf (sym same) (no_scope taken (h a taken refl is))) (λ (n : ⊥). absurd n) i

    by : (b : Bool) → In x (cond b [] (conf_for p a a.taken)) → IsProperConf x
    by true i = absurd i
    by false i = made a.taken refl i

-- ---- what goes toward a hop
module _ (p : NodeConfig) (c : ℕ) (g : Facts) (w : IsWithinBounds p c g) (l : Lane) where
  of_want : (st : StyleKind) (k : WantKey) (want : Want) (names : Names) (x : Part) → IsWantShaped k want → want.style ≡ st → ((y : Sender) → has names y ≡ true → name_of st y ≡ y)
      → want_part st names want.part ≡ Some x → IsOfStyle st x × IsSound x.flow
  of_want Wild k want names x shaped is listed e =
      let m = made_of names want.part.flow x e in (
        (wild_parts x).1 (made_named names want.part.flow x e, λ y h. scope_of names listed y (ap (λ (z : Names). has z y) (sym m.senders) ∙ h)),
        subst IsSound (sym m.flow) shaped.flow,
      )
  of_want Fixed k want names x shaped is listed e =
      let shape = subst (λ st. IsWantShape st k.1 want.part) is shaped.shape in (cut_of_style Fixed want.part x names shape.0 e, subst IsSound (sym (cut_flow want.part x names e)) shaped.flow)
  of_want Shared k want names x shaped is listed e =
      let shape = subst (λ st. IsWantShape st k.1 want.part) is shaped.shape in (cut_of_style Shared want.part x names shape.0 e, subst IsSound (sym (cut_flow want.part x names e)) shaped.flow)

  request_fine : (r : Request) → In r (requests p g l) → IsOfStyle l.style r.part × IsSound r.part.flow
  request_fine r i =
      ⊎_elim
      (λ (q : IsResvRequest p g l r).
      let s = w.shapes.resvs l.style (l.session, q.key) q.resv q.there in (
        cut_of_style l.style q.resv.part r.part (names_via_where g l (goes_out p l.session q.key.0.0)) s.style q.part,
        subst IsSound (sym (cut_flow q.resv.part r.part (names_via_where g l (goes_out p l.session q.key.0.0)) q.part)) s.flow,
      ))
      (λ (q : IsWantRequest g l r).
      of_want l.style (l.session, q.unit) q.want (names_via g l) r.part (w.shapes.wants (l.session, q.unit) q.want q.there) q.style (λ y h. names_listed l.style (via g l.session l.hop) y h) q.part)
      (request_told p g l r i)

  sound_by : (u : UnitOf) (part : Part) → or_else (all_by part_join (parts_of (open_of (requests_at l.style u (requests p g l)))))
      (all_by part_meet (parts_of (requests_at l.style u (requests p g l)))) ≡ Some part → IsSound part.flow
  sound_by u part e = by (all_by part_join (parts_of (open_of (requests_at l.style u (requests p g l))))) refl e
    where
      at : (r : Request) → In r (requests_at l.style u (requests p g l)) → IsSound r.part.flow
      at r i = (request_fine r (in_those units (request_unit l.style) (λ (z : Request). z.part) u r (requests p g l) i).0).1

      opens : (y : Part) → In y (parts_of (open_of (requests_at l.style u (requests p g l)))) → IsSound y.flow
      opens y i =
          let r = in_each (λ (z : Request). z.part) y (open_of (requests_at l.style u (requests p g l))) i in
          subst (λ (z : Part). IsSound z.flow) (sym r.2) (at r.0 (in_filter (λ (z : Request). not z.blockaded) r.0 (requests_at l.style u (requests p g l)) r.1).0)

      alls : (y : Part) → In y (parts_of (requests_at l.style u (requests p g l))) → IsSound y.flow
      alls y i = let r = in_each (λ (z : Request). z.part) y (requests_at l.style u (requests p g l)) i in subst (λ (z : Part). IsSound z.flow) (sym r.2) (at r.0 r.1)

      by : (v : Option Part) → all_by part_join (parts_of (open_of (requests_at l.style u (requests p g l)))) ≡ v
          → or_else v (all_by part_meet (parts_of (requests_at l.style u (requests p g l)))) ≡ Some part → IsSound part.flow
      by (Some x) is e =
          all_keeps part_join (λ (z : Part). IsSound z.flow) (λ a b h k. sound_join a.flow b.flow h k) (parts_of (open_of (requests_at l.style u (requests p g l)))) part (is ∙ e) opens
      by None is e = all_keeps part_meet (λ (z : Part). IsSound z.flow) (λ a b h k. sound_meet a.flow b.flow h k) (parts_of (requests_at l.style u (requests p g l))) part e alls

  pub toward_fine : AreFine l.style (toward p g l)
  toward_fine u part e = (
    ((merge_keeps_the_style l.style).toward (requests p g l) u part (λ r q. (request_fine r q.among).0) e).0,
    sound_by u part (sym (requests_and_toward.at p g l u) ∙ e),
  )

-- ---- tears
tear_proper : (st : StyleKind) (names rest : Names) (via_names : Names) → is_none (cut names (named_as st via_names)) ≡ false → IsProperTear (tear_of st (cut names (named_as st via_names)))
tear_proper Wild names rest v some = scope_of (cut names (named_as Wild v)) (λ x h. names_listed Wild v x (and_both _ _ (sym (has-cut senders names (named_as Wild v) x) ∙ h)).1)
tear_proper Fixed names rest v some = some_name (cut names (named_as Fixed v)) some
tear_proper Shared names rest v some = some_name (cut names (named_as Shared v)) some

-- ---- what goes on of an ADSPEC that is kept
passed_proper : (on : Option Iface) (kept : Option Adspec) → WhereThere IsAdspec kept → WhereThere IsAdspec (advert_by on (advert_of kept))
passed_proper on None h = tt
passed_proper None (Some a) h = tt
passed_proper (Some i) (Some a) h = what_is_composed_can_be_written.pass_on a i h

-- and what begins here
begun_proper : (on : Option Iface) (advertised : Bool) → WhereThere IsAdspec (advert_by on (own_advert advertised))
begun_proper on false = tt
begun_proper None true = tt
begun_proper (Some i) true = what_is_composed_can_be_written.start i

-- ---- all sends
module _ (old p : NodeConfig) (b : ℕ) (i : Input) (f : Facts) (some : 1 ≤ p.quarter) (fit : IsFit p i) (w : IsWithinBounds p b f) where
  abbrev after : Facts
  after = settled p (clock_after b i) f (act p (clock_after b i) i f).facts

  within_then : IsWithinBounds p (clock_after b i) (facts_then old p (clock_after b i) i f)
  within_then = kept_within old p b i f some fit w

  path_proper : (s : Send) → IsPath old p f after (act p (clock_after b i) i f) s → IsProper s.message
  path_proper s r =
      let at = offer_of p (facts_then old p (clock_after b i) i f) r.key r.offer r.offered in
      let sound : IsSound r.offer.tspec =
      ⊎_elim
      (λ (q : IsLocalOffer (facts_then old p (clock_after b i) i f) r.key r.offer). within_then.shapes.senders (r.key.session, r.key.sender) r.offer.tspec q.there)
      (λ (q : IsPathOffer (facts_then old p (clock_after b i) i f) r.key r.offer). subst IsSound (sym q.tspec) (within_then.shapes.paths (r.key.session, r.key.sender) q.path q.there).tspec)
      (offer_source (facts_then old p (clock_after b i) i f) r.key r.offer at) in
      let told : WhereThere IsAdspec (told_at p r.key.iface r.offer) =
      ⊎_elim
      (λ (q : IsLocalOffer (facts_then old p (clock_after b i) i f) r.key r.offer).
      subst (λ (z : Advert). WhereThere IsAdspec (advert_by (slice_get p.ifaces r.key.iface) z)) (sym q.advert)
      (begun_proper (slice_get p.ifaces r.key.iface) (has (facts_then old p (clock_after b i) i f).advertised (r.key.session, r.key.sender))))
      (λ (q : IsPathOffer (facts_then old p (clock_after b i) i f) r.key r.offer).
      subst (λ (z : Advert). WhereThere IsAdspec (advert_by (slice_get p.ifaces r.key.iface) z)) (sym q.advert)
      (passed_proper (slice_get p.ifaces r.key.iface) q.path.adspec (within_then.shapes.paths (r.key.session, r.key.sender) q.path q.there).adspec))
      (offer_source (facts_then old p (clock_after b i) i f) r.key r.offer at) in
      subst IsProper (sym (ap (λ (z : Send). z.message) r.is)) (sound, told)

  resv_proper : (s : Send) → IsResv old p f after (act p (clock_after b i) i f) s → IsProper s.message
  resv_proper s r =
      let whole : ask_of r.lane.style (toward p (facts_then old p (clock_after b i) i f) r.lane) ≡ Some r.ask = ap (ask_of r.lane.style) (rule_in_parts.toward_same old p (clock_after b i) i f r.lane)
      ∙ r.whole in
      subst IsProper (sym (ap (λ (z : Send). z.message) r.is)) (ask_proper r.lane.style (toward p (facts_then old p (clock_after b i) i f) r.lane)
      (toward_fine p (clock_after b i) (facts_then old p (clock_after b i) i f) within_then r.lane) r.ask whole)

  send_proper : (s : Send) → In s (sent_then old p (clock_after b i) i f) → IsProper s.message
  send_proper s h =
      ⊎_elim
      (λ (r : IsPathTear old p f after (act p (clock_after b i) i f) s). subst IsProper (sym (ap (λ (z : Send). z.message) r.is)) tt)
      (λ k. ⊎_elim
      (λ (r : IsResvTear old p f after (act p (clock_after b i) i f) s).
      subst IsProper (sym (ap (λ (z : Send). z.message) r.is)) (tear_proper r.lane.style (gone_names (toward old f r.lane) (toward p after r.lane)) empty (via after r.lane.session r.lane.hop) r.some))
      (λ k. ⊎_elim
      (λ (r : IsError old p f after (act p (clock_after b i) i f) s).
      subst IsProper (sym (ap (λ (z : Send). z.message) r.is)) (errors_proper p (clock_after b i) f (λ st k r e. (w.shapes.resvs st k r e).style) i fit r.error r.made))
      (λ k. ⊎_elim
      (λ (r : IsConf old p f after (act p (clock_after b i) i f) s).
      subst IsProper (sym (ap (λ (z : Send). z.message) r.is))
      (⊎_elim (λ (j : In r.conf (act p (clock_after b i) i f).confs). act_confs p (clock_after b i) i f fit r.conf j)
      (λ (j : In r.conf (confirmed old p f after (act p (clock_after b i) i f).asked)). confirmed_proper old p f after (act p (clock_after b i) i f).asked
      (wish_proper p (clock_after b i) i f fit) r.conf j)
      (in_append r.conf (act p (clock_after b i) i f).confs (confirmed old p f after (act p (clock_after b i) i f).asked) r.made)))
      (λ k. ⊎_elim (λ (r : IsPath old p f after (act p (clock_after b i) i f) s). path_proper s r) (λ (r : IsResv old p f after (act p (clock_after b i) i f) s). resv_proper s r) k) k) k) k)
      (send_told old p (clock_after b i) i f s h)

pub what_is_sent_is_proper : WhatIsSentIsProper
what_is_sent_is_proper old p b i f same fit w s h = send_proper old p b i f same.some fit (same_node old p b f same w) s h
