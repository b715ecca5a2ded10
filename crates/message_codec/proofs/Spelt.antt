-- What bytes spell is writable.
use Rattle.std.proofs.Common.{◌≡◌, ℕ, ◌+◌, ◌<◌, ◌≤◌, ◌^◌, Bool, true, false, cond, List, [], ◌∷◌, ◌++◌, length, Option, Some, None, sym, ap, subst, ◌∙◌, append_assoc, length-append, arith}
use Rattle.std.proofs.Common.{inl, inr, T}
use Rattle.std.specs.List.{AllByRecursion}
use Rattle.std.specs.Prelude.{map as each, ◌==◌}
use Rattle.std.specs.Ordering.{eq_by_cmp}
use Rattle.std.specs.FinMap.Entries.{find, is_sorted}
use Rattle.std.proofs.lemmas.Bool.{eq-eqb}
use Rattle.std.proofs.lemmas.List.{append-nil}
use Rattle.rsvp_base.specs.declared.addr.Addr.{Addr}
use Rattle.rsvp_base.specs.declared.err_spec.ErrSpec.{ErrSpec}
use Rattle.rsvp_base.specs.declared.hop.Hop.{Hop}
use Rattle.rsvp_base.specs.declared.session.Sender.{Sender}
use Rattle.rsvp_base.specs.declared.session.Session.{Session}
use Rattle.rsvp_base.specs.declared.style.StyleKind.{StyleKind}
use Rattle.rsvp_base.specs.declared.style.StyleKind.TheVariants.{Wild, Fixed, Shared}
use Rattle.rsvp_base.specs.Orders.{Names, senders}
use Rattle.rsvp_base.specs.Sets.{listed}
use Rattle.rsvp_base.specs.Table.{Table, empty, get, has, keys, size, put_in, with_rows, first, second}
use Rattle.rsvp_base.specs.TokenBucket.{TokenBucket}
use Rattle.rsvp_base.proofs.Tables.{either, tied_same, tied_self, none_above, got_put_in, size-put_in}
use Rattle.rsvp_objects.specs.declared.adspec.Adspec.{Adspec}
use Rattle.rsvp_objects.specs.AdspecLaws.{IsAdspec}
use Rattle.rsvp_objects.specs.declared.object.Object.{Object}
use Rattle.rsvp_objects.specs.declared.object.Object.TheVariants as object
use Rattle.rsvp_objects.specs.Proper as objects
use Rattle.rsvp_objects.specs.Fields.{AreBytes}
use Rattle.rsvp_objects.specs.Proper.{IsSession, IsHop, IsError, IsAddr, IsSender, IsSource, IsFlow}
use Rattle.rsvp_objects.proofs.Choices.{chosen}
use Rattle.rsvp_messages.specs.declared.ask.Ask.{Ask}
use Rattle.rsvp_messages.specs.declared.ask.Blame.{Blame}
use Rattle.rsvp_messages.specs.declared.ask.Tear.{Tear}
use Rattle.rsvp_messages.specs.declared.message.Kind.{Kind}
use Rattle.rsvp_messages.specs.declared.message.Message.{Message}
use Rattle.rsvp_messages.specs.FlowTable.{FlowTable}
use Rattle.rsvp_messages.specs.Kinds.{kind_of}
use Rattle.rsvp_messages.specs.Proper.{WhereThere}
use Rattle.message_codec.specs.declared.seen.Seen.{Seen}
use Rattle.message_codec.specs.Messages.{needed, sender_of, names_in, named, first_named, pairs_in, table_of_pairs, fixed_of, ask_of, tear_of, blame_of}
use Rattle.message_codec.specs.Places.{is_named, name_fault, Stand}
use Rattle.message_codec.specs.Said.{last_said, filters_after, seen_of, with_object}
use Rattle.message_codec.proofs.Gathered.{seen_more}
use Rattle.message_codec.proofs.Made.{gave, there, HoldsByParts, by_parts}
use Rattle.message_codec.proofs.Placed.{placed, placed_has}
use Rattle.message_codec.proofs.ProperRead.{all_join, what_is_spelt_is_proper}
use Rattle.message_codec.proofs.Spelling.{says_of}
use Rattle.message_codec.proofs.Standing.{good, good_is}
use Rattle.message_codec.specs.Encoding.{IsAdvertFew, AreFew, IsAskFew, IsTearFew, IsFew}
use Rattle.message_codec.specs.WritingLaws.{WhatIsSpeltIsWritable}
use Rattle.message_codec.specs.Objects.{where_there, sender_objects, pair_objects, ask_objects, tear_objects, blame_objects}
use Rattle.message_codec.specs.Ranges.{IsInRange, AreInRange}
use Rattle.message_codec.proofs.Own.{Filter}
use Rattle.message_codec.proofs.Ranged.{room_join, filters_room, writable}

-- ---- what a list of objects says has room

abbrev AreNames : Names → Type 0
AreNames names = (size names ≤ 16) × AllByRecursion IsSender (keys names)

abbrev IsRow : Filter → Type 0
IsRow e = IsSender e.0 × WhereThere IsFlow e.1

abbrev AreRows : List Filter → Type 0
AreRows es = AllByRecursion IsRow es × (length es ≤ 16)

record IsRoomy (s : Seen) : Type 0 where
  session : WhereThere (λ (e : Session × Bool). IsSession e.0) s.session
  hop : WhereThere IsHop s.hop
  period : WhereThere (λ (n : ℕ). n < 2 ^ 32) s.period
  error : WhereThere IsError s.error
  scope : WhereThere AreNames s.scope
  template : WhereThere IsSender s.template
  tspec : WhereThere IsFlow s.tspec
  advert : WhereThere IsAdspec s.advert
  confirm : WhereThere IsAddr s.confirm
  flow : WhereThere IsFlow s.flow
  rows : AreRows s.filters

-- what is skipped says nothing
abbrev IsRead : Object → Type 0
IsRead (object.Skipped n) = Unit {0}
IsRead x = IsInRange x

named_senders : (ss : List Sender) → AllByRecursion IsSource ss → AllByRecursion IsSender ss
named_senders [] h = tt
named_senders (s ∷ ss) h = (record { addr = h.0.addr; port = let e = h.0.port in omega arith }, named_senders ss h.1)

read_is : (x : Object) → objects.IsProper x → IsRead x
read_is (object.Session s p) h = h
read_is (object.HopOf x) h = h
read_is (object.Time n) h = h
read_is (object.Error e) h = h
read_is (object.Scope names) h = (h.few, named_senders (keys names) h.sources)
read_is (object.StyleOf k) h = h
read_is (object.FlowOf f) h = h
read_is (object.Filter s) h = h
read_is (object.Template s) h = h
read_is (object.Tspec f) h = h
read_is (object.Advert a) h = h
read_is (object.Confirm a) h = h
read_is (object.Skipped n) h = tt

kept : (es : List Filter) → AreRows es → AreRows (es ++ [])
kept es h = subst AreRows (sym (append-nil es)) h

not_full : (at : ℕ) (s : Seen) (x : Sender) → name_fault at s (object.Filter x) ≡ None → length s.filters ≡ 16 → ⊥
not_full at s x e n =
    elim (chosen (is_named x s.filters) _ _ _ e) [
      | inl p ↦ let z = p.1 in cc
      | inr p ↦ elim (chosen (length s.filters == 16) _ _ _ p.1) [
        | inl q ↦ let z = q.1 in cc
        | inr q ↦ let z = sym (eq-eqb (length s.filters) 16 n) ∙ q.0 in cc
      ]
    ]

one_more : (n : ℕ) → n ≤ 16 → (n ≡ 16 → ⊥) → n + 1 ≤ 16
one_more n h ne = omega arith

more : (at : ℕ) (s : Seen) (x : Object) → IsRoomy s → IsRead x → name_fault at s x ≡ None → IsRoomy (with_object s x)
unfolding with_object
more at s (object.Session t p) h r e =
    record {
      session = r;
      hop = h.hop;
      period = h.period;
      error = h.error;
      scope = h.scope;
      template = h.template;
      tspec = h.tspec;
      advert = h.advert;
      confirm = h.confirm;
      flow = h.flow;
      rows = kept
          s.filters h.rows;
    }
more at s (object.HopOf t) h r e =
    record {
      session = h.session;
      hop = r;
      period = h.period;
      error = h.error;
      scope = h.scope;
      template = h.template;
      tspec = h.tspec;
      advert = h.advert;
      confirm = h.confirm;
      flow = h.flow;
      rows =
          kept s.filters h.rows;
    }
more at s (object.Time t) h r e =
    record {
      session = h.session;
      hop = h.hop;
      period = r;
      error = h.error;
      scope = h.scope;
      template = h.template;
      tspec = h.tspec;
      advert = h.advert;
      confirm = h.confirm;
      flow = h.flow;
      rows = kept
          s.filters h.rows;
    }
more at s (object.Error t) h r e =
    record {
      session = h.session;
      hop = h.hop;
      period = h.period;
      error = r;
      scope = h.scope;
      template = h.template;
      tspec = h.tspec;
      advert = h.advert;
      confirm = h.confirm;
      flow = h.flow;
      rows =
          kept s.filters h.rows;
    }
more at s (object.Scope t) h r e =
    record {
      session = h.session;
      hop = h.hop;
      period = h.period;
      error = h.error;
      scope = r;
      template = h.template;
      tspec = h.tspec;
      advert = h.advert;
      confirm = h.confirm;
      flow = h.flow;
      rows =
          kept s.filters h.rows;
    }
more at s (object.StyleOf t) h r e =
    record {
      session = h.session;
      hop = h.hop;
      period = h.period;
      error = h.error;
      scope = h.scope;
      template = h.template;
      tspec = h.tspec;
      advert = h.advert;
      confirm = h.confirm;
      flow = h.flow;
      rows
          = kept s.filters h.rows;
    }
more at s (object.FlowOf t) h r e =
    record {
      session = h.session;
      hop = h.hop;
      period = h.period;
      error = h.error;
      scope = h.scope;
      template = h.template;
      tspec = h.tspec;
      advert = h.advert;
      confirm = h.confirm;
      flow = r;
      rows =
          kept s.filters h.rows;
    }
more at s (object.Filter t) h r e =
    record {
      session = h.session;
      hop = h.hop;
      period = h.period;
      error = h.error;
      scope = h.scope;
      template = h.template;
      tspec = h.tspec;
      advert = h.advert;
      confirm = h.confirm;
      flow = h.flow;
      rows
          = (
            all_join IsRow s.filters ((t, s.flow) ∷ []) h.rows.0 ((r, h.flow), tt),
            subst (λ (n : ℕ). n ≤ 16) (sym (length-append s.filters ((t, s.flow) ∷ [])))
                (one_more (length s.filters) h.rows.1 (not_full at s t e)),
          );
    }
more at s (object.Template t) h r e =
    record {
      session = h.session;
      hop = h.hop;
      period = h.period;
      error = h.error;
      scope = h.scope;
      template = r;
      tspec = h.tspec;
      advert = h.advert;
      confirm = h.confirm;
      flow = h.flow;
      rows = kept
          s.filters h.rows;
    }
more at s (object.Tspec t) h r e =
    record {
      session = h.session;
      hop = h.hop;
      period = h.period;
      error = h.error;
      scope = h.scope;
      template = h.template;
      tspec = r;
      advert = h.advert;
      confirm = h.confirm;
      flow = h.flow;
      rows =
          kept s.filters h.rows;
    }
more at s (object.Advert t) h r e =
    record {
      session = h.session;
      hop = h.hop;
      period = h.period;
      error = h.error;
      scope = h.scope;
      template = h.template;
      tspec = h.tspec;
      advert = r;
      confirm = h.confirm;
      flow = h.flow;
      rows = kept
          s.filters h.rows;
    }
more at s (object.Confirm t) h r e =
    record {
      session = h.session;
      hop = h.hop;
      period = h.period;
      error = h.error;
      scope = h.scope;
      template = h.template;
      tspec = h.tspec;
      advert = h.advert;
      confirm = r;
      flow = h.flow;
      rows = kept
          s.filters h.rows;
    }
more at s (object.Skipped t) h r e =
    record {
      session = h.session;
      hop = h.hop;
      period = h.period;
      error = h.error;
      scope = h.scope;
      template = h.template;
      tspec = h.tspec;
      advert = h.advert;
      confirm = h.confirm;
      flow = h.flow;
      rows
          = kept s.filters h.rows;
    }

all_roomy : (kind : Kind) (b : List ℕ) (before : List Object) (at : ℕ) (xs : List Object) (end : ℕ) → AreBytes b → Stand kind b before at xs end → IsRoomy (seen_of before)
    → IsRoomy (seen_of (before ++ xs))
all_roomy kind b before at [] end bytes s h = subst (λ (ys : List Object). IsRoomy (seen_of ys)) (sym (append-nil before)) h
all_roomy kind b before at (x ∷ xs) end bytes s h =
    let p = placed kind (seen_of before) at b x s.0 s.1 in
    let next : IsRoomy (seen_of (before ++ x ∷ [])) = subst IsRoomy (sym (seen_more before x))
    (more at (seen_of before) x h (placed_has IsRead (λ n. tt) read_is kind (seen_of before) at b x bytes p) p.name) in
    subst (λ (ys : List Object). IsRoomy (seen_of ys)) (append_assoc before (x ∷ []) xs) (all_roomy kind b (before ++ x ∷ []) s.0 xs end bytes s.2 next)

nothing : IsRoomy (seen_of [])
unfolding last_said filters_after
nothing = record { session = tt; hop = tt; period = tt; error = tt; scope = tt; template = tt; tspec = tt; advert = tt; confirm = tt; flow = tt; rows = (tt, omega arith) }

-- ---- tables of rows that have room

abbrev table_from : {X : Type 0} → List (Sender × X) → Table senders X
table_from es = with_rows empty es

module _ {X : Type 0} (P : Sender × X → Type 0) where
  -- each row is found
  rows_all : (rows : List (Sender × X)) → T (is_sorted senders.cmp rows) → ((s : Sender) (x : X) → find senders.cmp s rows ≡ Some x → P (s, x)) → AllByRecursion P rows
  rows_all [] up h = tt
  rows_all (e ∷ es) up h = (h e.0 e.1 (ap (λ (b : Bool). cond b (Some e.1) (find senders.cmp e.0 es)) (tied_self senders e.0)), rows_all es (second _ _ up) (λ s x is. h s x (behind s x is)))
    where
      behind : (s : Sender) (x : X) → find senders.cmp s es ≡ Some x → find senders.cmp s (e ∷ es) ≡ Some x
      behind s x is =
          either (eq_by_cmp senders.cmp s e.0)
          (λ t. let none = ap (λ (q : Sender). find senders.cmp q es) (tied_same senders s e.0 t) ∙ none_above senders e.0 es (first _ _ up) in let z = sym none ∙ is in absurd cc)
          (λ t. ap (λ (b : Bool). cond b (Some e.1) (find senders.cmp s es)) t ∙ is)

  rows_put : (es : List (Sender × X)) (t : Table senders X) → ((s : Sender) (x : X) → get t s ≡ Some x → P (s, x)) → AllByRecursion P es → (s : Sender) (x : X) → get (with_rows t es) s ≡ Some x
      → P (s, x)
  rows_put [] t h p = h
  rows_put (e ∷ es) t h p =
      rows_put es (put_in t e.0 e.1) (λ s x is. elim (got_put_in senders t e.0 e.1 s x is) [ inl q ↦ subst P (λ i. (sym q.0 i, sym q.1 i)) p.0 | inr q ↦ h s x q ]) p.1

  table_all : (es : List (Sender × X)) → AllByRecursion P es → AllByRecursion P (table_from es).rows
  table_all es p = rows_all (table_from es).rows (table_from es).sorted (rows_put es empty (λ s x is. absurd cc) p)

  no_more : (b : Bool) (n : ℕ) → cond b n (n + 1) ≤ n + 1
  no_more true n = omega arith
  no_more false n = omega arith

  rows_few : (es : List (Sender × X)) (t : Table senders X) → size (with_rows t es) ≤ size t + length es
  rows_few [] t = omega arith
  rows_few (e ∷ es) t =
      let step : size (put_in t e.0 e.1) ≤ size t + 1 = subst (λ (n : ℕ). n ≤ size t + 1) (sym (size-put_in senders t e.0 e.1)) (no_more (has t e.0) (size t)) in
      let rest = rows_few es (put_in t e.0 e.1) in
      omega arith

-- ---- lists of the styles

few_of : (n m k : ℕ) → n ≤ 0 + m → m ≤ k → k ≤ 16 → n ≤ 16
few_of n m k p q r = omega arith

abbrev IsKey : Sender × Unit {0} → Type 0
IsKey e = IsSender e.0

listed_all : (es : List Filter) → AllByRecursion IsRow es → AllByRecursion IsKey (listed (each (λ (f : Filter). f.0) es))
listed_all [] h = tt
listed_all (e ∷ es) h = (h.0.0, listed_all es h.1)

listed_few : (es : List Filter) → length (listed (each (λ (f : Filter). f.0) es)) ≤ length es
listed_few [] = omega arith
listed_few (e ∷ es) = let rest = listed_few es in omega arith

keys_all : (rows : List (Sender × Unit {0})) → AllByRecursion IsKey rows → AllByRecursion IsSender (each (λ (e : Sender × Unit {0}). e.0) rows)
keys_all [] h = tt
keys_all (e ∷ es) h = (h.0, keys_all es h.1)

names_fit : (es : List Filter) → AreRows es → AreNames (names_in es)
names_fit es h =
    let ks = listed (each (λ (f : Filter). f.0) es) in (
      few_of (size (names_in es)) (length ks) (length es) (rows_few IsKey ks empty) (listed_few es) h.1,
      keys_all (names_in es).rows (table_all IsKey ks (listed_all es h.0)),
    )

named_fit : (es : List Filter) → AreRows es → WhereThere AreNames (named es)
named_fit [] h = tt
named_fit (e ∷ es) h = names_fit (e ∷ es) h

first_fits : (es : List Filter) → AreRows es → WhereThere AreNames (first_named es)
first_fits [] h = tt
first_fits (e ∷ es) h = names_fit (e ∷ []) ((h.0.0, tt), omega arith)

abbrev IsPair : Sender × TokenBucket → Type 0
IsPair e = IsSender e.0 × IsFlow e.1

pairs_each : (es : List Filter) → AllByRecursion IsRow es → AllByRecursion IsPair (pairs_in es)
pairs_each [] h = tt
pairs_each ((s, Some f) ∷ es) h = ((h.0.0, h.0.1), pairs_each es h.1)
pairs_each ((s, None) ∷ es) h = pairs_each es h.1

pairs_few : (es : List Filter) → length (pairs_in es) ≤ length es
pairs_few [] = omega arith
pairs_few ((s, Some f) ∷ es) = let rest = pairs_few es in omega arith
pairs_few ((s, None) ∷ es) = let rest = pairs_few es in omega arith

pairs_room : (rows : List (Sender × TokenBucket)) → AllByRecursion IsPair rows → AllByRecursion IsInRange (pair_objects rows)
pairs_room [] h = tt
pairs_room (e ∷ es) h = (h.0.1, (h.0.0, pairs_room es h.1))

abbrev TableFits : FlowTable → Type 0
TableFits t = AllByRecursion IsInRange (pair_objects t.rows) × (size t ≤ 16)

table_fits : (es : List (Sender × TokenBucket)) (n : ℕ) → AllByRecursion IsPair es → length es ≤ n → n ≤ 16 → WhereThere TableFits (table_of_pairs es)
table_fits [] n h few most = tt
table_fits (e ∷ es) n h few most =
    let t : FlowTable = with_rows empty (e ∷ es) in
    (pairs_room t.rows (table_all IsPair (e ∷ es) h), few_of (size t) (length (e ∷ es)) n (rows_few IsPair (e ∷ es) empty) few most)

fixed_fits : (due : Bool) (es : List Filter) (t : FlowTable) → AreRows es → fixed_of due es ≡ good t → TableFits t
fixed_fits true es t h e = absurd cc
fixed_fits false es t h e = there TableFits 10 (table_of_pairs (pairs_in es)) t (table_fits (pairs_in es) (length es) (pairs_each es h.0) (pairs_few es) h.1) e

scope_room : (scope : Option Names) → WhereThere AreNames scope → AllByRecursion IsInRange (where_there object.Scope scope)
scope_room None h = tt
scope_room (Some names) h = (h, tt)

scope_few : (scope : Option Names) → WhereThere AreNames scope → AreFew scope
scope_few None h = tt
scope_few (Some names) h = h.0

abbrev AskFits : Ask → Type 0
AskFits a = AllByRecursion IsInRange (ask_objects a) × IsAskFew a

ask_fits : (scope : Option Names) (due : Bool) (es : List Filter) (f : TokenBucket) (k : StyleKind) (a : Ask) → WhereThere AreNames scope → AreRows es → IsFlow f → ask_of scope due es f k ≡ good a
    → AskFits a
ask_fits scope due es f Wild a p q r e = subst AskFits (good_is e) (
  room_join (where_there object.Scope scope) (object.StyleOf Wild ∷ object.FlowOf f ∷ []) (scope_room scope p) (tt, (r, tt)),
  scope_few scope p,
)
ask_fits scope due es f Fixed a p q r e =
    let g = gave _ (fixed_of due es) a e in
    let t = fixed_fits due es g.value q g.was in
    subst AskFits (good_is g.rest) ((tt, t.0), t.1)
ask_fits scope due es f Shared a p q r e =
    let g = gave _ (needed 10 (named es)) a e in
    let n = there AreNames 10 (named es) g.value (named_fit es q) g.was in
    subst AskFits (good_is g.rest) ((tt, (r, filters_room (keys g.value) n.1)), n.0)

abbrev TearFits : Tear → Type 0
TearFits t = AllByRecursion IsInRange (tear_objects t) × IsTearFew t

tear_fits : (scope : Option Names) (es : List Filter) (k : StyleKind) (t : Tear) → WhereThere AreNames scope → AreRows es → tear_of scope es k ≡ good t → TearFits t
tear_fits scope es Wild t p q e = subst TearFits (good_is e) (room_join (where_there object.Scope scope) (object.StyleOf Wild ∷ []) (scope_room scope p) (tt, tt), scope_few scope p)
tear_fits scope es Fixed t p q e =
    let g = gave _ (needed 10 (named es)) t e in
    let n = there AreNames 10 (named es) g.value (named_fit es q) g.was in
    subst TearFits (good_is g.rest) ((tt, filters_room (keys g.value) n.1), n.0)
tear_fits scope es Shared t p q e =
    let g = gave _ (needed 10 (named es)) t e in
    let n = there AreNames 10 (named es) g.value (named_fit es q) g.was in
    subst TearFits (good_is g.rest) ((tt, filters_room (keys g.value) n.1), n.0)

flow_room : (f : Option TokenBucket) → WhereThere IsFlow f → AllByRecursion IsInRange (where_there object.FlowOf f)
flow_room None h = tt
flow_room (Some f) h = (h, tt)

abbrev BlameFits : Blame → Type 0
BlameFits b = AllByRecursion IsInRange (blame_objects b) × AreFew b.senders

blame_fits : (scope : Option Names) (es : List Filter) (f : Option TokenBucket) (k : StyleKind) (x : Blame) → WhereThere AreNames scope → AreRows es → WhereThere IsFlow f
    → blame_of scope es f k ≡ good x → BlameFits x
blame_fits scope es f Wild x p q r e = subst BlameFits (good_is e) (
  room_join (where_there object.Scope scope) (object.StyleOf Wild ∷ where_there object.FlowOf f) (scope_room scope p)
      (tt, flow_room f r),
  scope_few scope p,
)
blame_fits scope es None Fixed x p q r e = subst BlameFits (good_is e) ((tt, tt), tt)
blame_fits scope es (Some f) Fixed x p q r e =
    let g = gave _ (needed 10 (first_named es)) x e in
    let n = there AreNames 10 (first_named es) g.value (first_fits es q) g.was in
    subst BlameFits (good_is g.rest) ((tt, (r, filters_room (keys g.value) n.1)), n.0)
blame_fits scope es None Shared x p q r e = subst BlameFits (good_is e) ((tt, tt), tt)
blame_fits scope es (Some f) Shared x p q r e =
    let g = gave _ (needed 10 (named es)) x e in
    let n = there AreNames 10 (named es) g.value (named_fit es q) g.was in
    subst BlameFits (good_is g.rest) ((tt, (r, filters_room (keys g.value) n.1)), n.0)

-- ---- messages

template_room : (o : Option Sender) → WhereThere IsSender o → AllByRecursion IsInRange (where_there object.Template o)
template_room None h = tt
template_room (Some s) h = (h, tt)

confirm_room : (o : Option Addr) → WhereThere IsAddr o → AllByRecursion IsInRange (where_there object.Confirm o)
confirm_room None h = tt
confirm_room (Some a) h = (h, tt)

advert_room : (o : Option Adspec) → WhereThere IsAdspec o → AllByRecursion IsInRange (where_there object.Advert o)
advert_room None h = tt
advert_room (Some a) h = (h, tt)

advert_few : (o : Option Adspec) → WhereThere IsAdspec o → IsAdvertFew o
advert_few None h = tt
advert_few (Some a) h = h.others.few

abbrev OfferFits : Option (Sender × TokenBucket) → Type 0
OfferFits o = AllByRecursion IsInRange (sender_objects o)

offer_fits : (s : Option Sender) (f : Option TokenBucket) (o : Option (Sender × TokenBucket)) → WhereThere IsSender s → WhereThere IsFlow f → sender_of s f ≡ good o → OfferFits o
offer_fits (Some s) (Some f) o p q e = subst OfferFits (good_is e) (p, (q, tt))
offer_fits (Some s) None o p q e = absurd cc
offer_fits None (Some f) o p q e = absurd cc
offer_fits None None o p q e = subst OfferFits (good_is e) tt

abbrev MessageFits : Message → Type 0
MessageFits v = AreInRange v × IsFew v

who_fits : (s : Seen) (x : Session × Bool) → IsRoomy s → needed 1 s.session ≡ good x → IsSession x.0
who_fits s x h e = there (λ (x : Session × Bool). IsSession x.0) 1 s.session x h.session e

hop_fits : (s : Seen) (x : Hop) → IsRoomy s → needed 3 s.hop ≡ good x → IsHop x
hop_fits s x h e = there IsHop 3 s.hop x h.hop e

period_fits : (s : Seen) (t : ℕ) → IsRoomy s → needed 5 s.period ≡ good t → t < 2 ^ 32
period_fits s t h e = there (λ (n : ℕ). n < 2 ^ 32) 5 s.period t h.period e

error_fits : (s : Seen) (x : ErrSpec) → IsRoomy s → needed 6 s.error ≡ good x → IsError x
error_fits s x h e = there IsError 6 s.error x h.error e

made_fits : (s : Seen) → IsRoomy s → HoldsByParts MessageFits s
made_fits s h =
    record {
      path = λ x hop t o who via period sent.
          let room = room_join (sender_objects o) (where_there object.Advert s.advert) (offer_fits s.template s.tspec o h.template h.tspec sent) (advert_room s.advert h.advert) in
          ((who_fits s x h who, (hop_fits s hop h via, (period_fits s t h period, room))), advert_few s.advert h.advert);
      resv = λ x hop t k f a who via period flow asked.
          let fit = ask_fits s.scope s.due s.filters f k a h.scope h.rows (there IsFlow 9 s.flow f h.flow flow) asked in
          let room = room_join (where_there object.Confirm s.confirm) (ask_objects a) (confirm_room s.confirm h.confirm) fit.0 in
          ((who_fits s x h who, (hop_fits s hop h via, (period_fits s t h period, room))), fit.1);
      path_err = λ x e who error. ((who_fits s x h who, (error_fits s e h error, template_room s.template h.template)), tt);
      resv_err = λ x hop e k b who via error blamed.
          let fit = blame_fits s.scope s.filters s.flow k b h.scope h.rows h.flow blamed in
          ((who_fits s x h who, (hop_fits s hop h via, (error_fits s e h error, fit.0))), fit.1);
      path_tear = λ x hop who via. ((who_fits s x h who, (hop_fits s hop h via, template_room s.template h.template)), tt);
      resv_tear = λ x hop k t who via torn.
          let fit = tear_fits s.scope s.filters k t h.scope h.rows torn in
          ((who_fits s x h who, (hop_fits s hop h via, fit.0)), fit.1);
      resv_conf = λ x e k f a c who error flow asked confirmed.
          let fit = ask_fits None s.due s.filters f k a tt h.rows (there IsFlow 9 s.flow f h.flow flow) asked in
          ((who_fits s x h who, (error_fits s e h error, (there IsAddr 15 s.confirm c h.confirm confirmed, fit.0))), fit.1);
    }

pub what_is_spelt_is_writable : WhatIsSpeltIsWritable
what_is_spelt_is_writable b v bytes s =
    let walk = says_of b v s.1 in
    let fit = by_parts MessageFits (seen_of walk.0) (made_fits (seen_of walk.0) (all_roomy (kind_of v) b [] 8 walk.0 (length b) bytes walk.1 nothing)) (kind_of v) v walk.2 in
    writable v (what_is_spelt_is_proper b v bytes s) fit.0 fit.1
