-- What bytes spell is proper.
use Rattle.std.proofs.Common.{◌≡◌, ℕ, suc, ◌+◌, ◌<◌, ◌≤◌, Bool, true, false, cond, List, [], ◌∷◌, ◌++◌, length, get_or, Option, Some, None, refl, sym, subst, ◌∙◌, arith, inl, inr}
use Rattle.std.specs.List.{AllByRecursion}
use Rattle.std.specs.Prelude.{map as each}
use Rattle.rsvp_base.specs.declared.session.Sender.{Sender}
use Rattle.rsvp_base.specs.declared.style.StyleKind.{StyleKind}
use Rattle.rsvp_base.specs.declared.style.StyleKind.TheVariants.{Wild, Fixed, Shared}
use Rattle.rsvp_base.specs.Members.{In}
use Rattle.rsvp_base.specs.Orders.{Names, senders}
use Rattle.rsvp_base.specs.Sets.{with_key, listed}
use Rattle.rsvp_base.specs.Table.{empty, has, keys, size, put_in, with_rows}
use Rattle.rsvp_base.specs.TokenBucket.{TokenBucket, IsSound}
use Rattle.rsvp_base.proofs.Lists.{has_keys}
use Rattle.rsvp_base.proofs.Members.{in_tied}
use Rattle.rsvp_base.proofs.SetLaws.{size-with_rows}
use Rattle.rsvp_base.proofs.Tables.{got_put_in, size-put_in}
use Rattle.rsvp_objects.specs.Classes as number
use Rattle.rsvp_objects.specs.AdspecLaws.{IsAdspec}
use Rattle.rsvp_objects.specs.declared.object.Object.{Object}
use Rattle.rsvp_objects.specs.declared.object.Object.TheVariants as object
use Rattle.rsvp_objects.specs.Proper as objects
use Rattle.rsvp_objects.specs.Fields.{AreBytes}
use Rattle.rsvp_objects.specs.Proper.{IsSource}
use Rattle.rsvp_messages.specs.declared.ask.Ask.{Ask}
use Rattle.rsvp_messages.specs.declared.ask.Blame.{Blame}
use Rattle.rsvp_messages.specs.declared.ask.Tear.{Tear}
use Rattle.rsvp_messages.specs.declared.message.Kind.{Kind}
use Rattle.rsvp_messages.specs.FlowTable.{FlowTable}
use Rattle.rsvp_messages.specs.Kinds.{kind_of}
use Rattle.rsvp_messages.specs.Proper.{IsSome, IsScope, WhereThere, AreFlows, IsProperAsk, HasNoScope, IsProperTear, IsProperBlame, IsProper}
use Rattle.message_codec.specs.declared.seen.Seen.{Seen}
use Rattle.message_codec.specs.Laws.{WhatIsSpeltIsProper}
use Rattle.message_codec.specs.Messages.{needed, sender_of, names_in, named, first_named, pairs_in, table_of_pairs, fixed_of, ask_of, tear_of, blame_of}
use Rattle.message_codec.specs.Places.{Stand}
use Rattle.message_codec.specs.Said.{scope_said, tspec_said, advert_said, flow_said, or_else, last_said, filter_with, filters_after, seen_of}
use Rattle.message_codec.proofs.Made.{gave, there, HoldsByParts, by_parts}
use Rattle.message_codec.proofs.Placed.{placed, placed_has}
use Rattle.message_codec.proofs.Spelling.{says_of}
use Rattle.message_codec.proofs.Standing.{good, good_is}

-- ---- objects

-- a scope that it says names addresses alone, a flow is sound, and an ADSPEC can be written
record IsSaid (x : Object) : Type 0 where
  scope : WhereThere IsScope (scope_said x)
  flow : WhereThere IsSound (flow_said x)
  tspec : WhereThere IsSound (tspec_said x)
  advert : WhereThere IsAdspec (advert_said x)

member_is : (P : Sender → Type 0) (xs : List Sender) (s : Sender) → AllByRecursion P xs → In s xs → P s
member_is P [] s h i = absurd i
member_is P (x ∷ xs) s h (inl e) = subst P (sym e) h.0
member_is P (x ∷ xs) s h (inr i) = member_is P xs s h.1 i

scope_is : (names : Names) → AllByRecursion IsSource (keys names) → IsScope names
scope_is names h = λ s e. (member_is IsSource (keys names) s h (in_tied senders s (keys names) (sym (has_keys names s) ∙ e))).port

said_is : (x : Object) → objects.IsProper x → IsSaid x
said_is (object.Session s police) h = record { scope = tt; flow = tt; tspec = tt; advert = tt }
said_is (object.HopOf x) h = record { scope = tt; flow = tt; tspec = tt; advert = tt }
said_is (object.Time n) h = record { scope = tt; flow = tt; tspec = tt; advert = tt }
said_is (object.Error e) h = record { scope = tt; flow = tt; tspec = tt; advert = tt }
said_is (object.Scope names) h = record { scope = scope_is names h.sources; flow = tt; tspec = tt; advert = tt }
said_is (object.StyleOf k) h = record { scope = tt; flow = tt; tspec = tt; advert = tt }
said_is (object.FlowOf f) h = record { scope = tt; flow = h.sound; tspec = tt; advert = tt }
said_is (object.Filter s) h = record { scope = tt; flow = tt; tspec = tt; advert = tt }
said_is (object.Template s) h = record { scope = tt; flow = tt; tspec = tt; advert = tt }
said_is (object.Tspec f) h = record { scope = tt; flow = tt; tspec = h.sound; advert = tt }
said_is (object.Advert a) h = record { scope = tt; flow = tt; tspec = tt; advert = h }
said_is (object.Confirm a) h = record { scope = tt; flow = tt; tspec = tt; advert = tt }
said_is (object.Skipped n) h = record { scope = tt; flow = tt; tspec = tt; advert = tt }

all_said : (kind : Kind) (b : List ℕ) (before : List Object) (at : ℕ) (xs : List Object) (end : ℕ) → AreBytes b → Stand kind b before at xs end
    → AllByRecursion IsSaid xs
all_said kind b before at [] end bytes s = tt
all_said kind b before at (x ∷ xs) end bytes s = (
  placed_has IsSaid (λ n. record { scope = tt; flow = tt; tspec = tt; advert = tt }) said_is kind (seen_of before) at b x bytes
      (placed kind (seen_of before) at b x s.0 s.1),
  all_said kind b (before ++ x ∷ []) s.0 xs end bytes s.2,
)

-- ---- what they say together

pub all_join : {A : Type 0} (P : A → Type 0) (xs ys : List A) → AllByRecursion P xs → AllByRecursion P ys → AllByRecursion P (xs ++ ys)
all_join P [] ys p q = q
all_join P (x ∷ xs) ys p q = (p.0, all_join P xs ys p.1 q)

or_is : {A : Type 0} (P : A → Type 0) (a b : Option A) → WhereThere P a → WhereThere P b → WhereThere P (or_else a b)
or_is P (Some x) b p q = p
or_is P None b p q = q

last_is : {A : Type 0} (P : A → Type 0) (f : Object → Option A) → ((x : Object) → IsSaid x → WhereThere P (f x)) → (xs : List Object)
    → AllByRecursion IsSaid xs → WhereThere P (last_said f xs)
unfolding last_said
last_is P f each [] h = tt
last_is P f each (x ∷ xs) h = or_is P (last_said f xs) (f x) (last_is P f each xs h.1) (each x h.0)

abbrev Filter : Type 0
Filter = Sender × Option TokenBucket

abbrev HasSound : Filter → Type 0
HasSound e = WhereThere IsSound e.1

filter_each : (f : Option TokenBucket) (x : Object) → WhereThere IsSound f → AllByRecursion HasSound (filter_with f x)
filter_each f (object.Filter s) h = (h, tt)
filter_each f (object.Session s p) h = tt
filter_each f (object.HopOf x) h = tt
filter_each f (object.Time n) h = tt
filter_each f (object.Error e) h = tt
filter_each f (object.Scope names) h = tt
filter_each f (object.StyleOf k) h = tt
filter_each f (object.FlowOf g) h = tt
filter_each f (object.Template s) h = tt
filter_each f (object.Tspec g) h = tt
filter_each f (object.Advert a) h = tt
filter_each f (object.Confirm a) h = tt
filter_each f (object.Skipped n) h = tt

filters_each : (f : Option TokenBucket) (xs : List Object) → WhereThere IsSound f → AllByRecursion IsSaid xs
    → AllByRecursion HasSound (filters_after f xs)
unfolding filters_after
filters_each f [] p h = tt
filters_each f (x ∷ xs) p h =
    all_join HasSound (filter_with f x) (filters_after (or_else (flow_said x) f) xs) (filter_each f x p)
    (filters_each (or_else (flow_said x) f) xs (or_is IsSound (flow_said x) f h.0.flow p) h.1)

record IsSeenProper (s : Seen) : Type 0 where
  scope : WhereThere IsScope s.scope
  tspec : WhereThere IsSound s.tspec
  advert : WhereThere IsAdspec s.advert
  flow : WhereThere IsSound s.flow
  filters : AllByRecursion HasSound s.filters

seen_proper : (xs : List Object) → AllByRecursion IsSaid xs → IsSeenProper (seen_of xs)
seen_proper xs h =
    record {
      scope = last_is IsScope scope_said (λ x h. h.scope) xs h;
      tspec = last_is IsSound tspec_said (λ x h. h.tspec) xs h;
      advert = last_is IsAdspec advert_said (λ x h. h.advert) xs h;
      flow = last_is IsSound flow_said (λ x h. h.flow) xs h;
      filters = filters_each None xs tt h;
    }

-- ---- lists of the styles

names_some : (e : Filter) (es : List Filter) → IsSome (names_in (e ∷ es))
names_some e es = size-with_rows senders (listed (each (λ (f : Filter). f.0) es)) (with_key empty e.0)

named_some : (es : List Filter) → WhereThere IsSome (named es)
named_some [] = tt
named_some (e ∷ es) = names_some e es

first_one : (es : List Filter) → WhereThere (λ (n : Names). size n ≡ 1) (first_named es)
first_one [] = tt
first_one (e ∷ es) = refl

abbrev HasSoundFlow : Sender × TokenBucket → Type 0
HasSoundFlow e = IsSound e.1

pairs_each : (es : List Filter) → AllByRecursion HasSound es → AllByRecursion HasSoundFlow (pairs_in es)
pairs_each [] h = tt
pairs_each ((s, Some f) ∷ es) h = (h.0, pairs_each es h.1)
pairs_each ((s, None) ∷ es) h = pairs_each es h.1

no_fewer : (b : Bool) (n : ℕ) → n ≤ cond b n (n + 1)
no_fewer true n = omega arith
no_fewer false n = omega arith

rows_grow : (es : List (Sender × TokenBucket)) (t : FlowTable) → size t ≤ size (with_rows t es)
rows_grow [] t = omega arith
rows_grow (e ∷ es) t =
    let grown = no_fewer (has t e.0) (size t) in
    let step : size t ≤ size (put_in t e.0 e.1) = subst (λ (n : ℕ). size t ≤ n) (sym (size-put_in senders t e.0 e.1)) grown in
    let rest = rows_grow es (put_in t e.0 e.1) in
    omega arith

put_flows : (t : FlowTable) (e : Sender × TokenBucket) → AreFlows t → IsSound e.1 → AreFlows (put_in t e.0 e.1)
put_flows t e h p = λ s f is. elim (got_put_in senders t e.0 e.1 s f is) [ inl q ↦ subst IsSound (sym q.1) p | inr q ↦ h s f q ]

rows_flows : (es : List (Sender × TokenBucket)) (t : FlowTable) → AreFlows t → AllByRecursion HasSoundFlow es → AreFlows (with_rows t es)
rows_flows [] t h p = h
rows_flows (e ∷ es) t h p = rows_flows es (put_in t e.0 e.1) (put_flows t e h p.0) p.1

no_flows : AreFlows empty
no_flows s f e = absurd cc

table_proper : (es : List (Sender × TokenBucket)) → AllByRecursion HasSoundFlow es
    → WhereThere (λ (t : FlowTable). (0 < size t) × AreFlows t) (table_of_pairs es)
table_proper [] h = tt
table_proper (e ∷ es) h = (rows_grow es (put_in empty e.0 e.1), rows_flows (e ∷ es) empty no_flows h)

fixed_proper : (due : Bool) (es : List Filter) (t : FlowTable) → AllByRecursion HasSound es → fixed_of due es ≡ good t → (0 < size t) × AreFlows t
fixed_proper true es t h e = absurd cc
fixed_proper false es t h e =
    there (λ (t : FlowTable). (0 < size t) × AreFlows t) number.filter_spec (table_of_pairs (pairs_in es)) t
    (table_proper (pairs_in es) (pairs_each es h)) e

ask_proper : (scope : Option Names) (due : Bool) (es : List Filter) (f : TokenBucket) (k : StyleKind) (a : Ask) → WhereThere IsScope scope
    → AllByRecursion HasSound es → IsSound f → ask_of scope due es f k ≡ good a → IsProperAsk a
ask_proper scope due es f Wild a p q r e = subst IsProperAsk (good_is e) (record { scope_is = p; flow_is = r })
ask_proper scope due es f Fixed a p q r e =
    let g = gave _ (fixed_of due es) a e in
    let t = fixed_proper due es g.value q g.was in
    subst IsProperAsk (good_is g.rest) (record { some = t.0; flows = t.1 })
ask_proper scope due es f Shared a p q r e =
    let g = gave _ (needed number.filter_spec (named es)) a e in
    subst IsProperAsk (good_is g.rest) (record { some = there IsSome number.filter_spec (named es) g.value (named_some es) g.was; flow = r })

no_scope : (due : Bool) (es : List Filter) (f : TokenBucket) (k : StyleKind) (a : Ask) → ask_of None due es f k ≡ good a → HasNoScope a
no_scope due es f Wild a e = subst HasNoScope (good_is e) refl
no_scope due es f Fixed a e = let g = gave _ (fixed_of due es) a e in subst HasNoScope (good_is g.rest) tt
no_scope due es f Shared a e = let g = gave _ (needed number.filter_spec (named es)) a e in subst HasNoScope (good_is g.rest) tt

tear_proper : (scope : Option Names) (es : List Filter) (k : StyleKind) (t : Tear) → WhereThere IsScope scope → tear_of scope es k ≡ good t
    → IsProperTear t
tear_proper scope es Wild t p e = subst IsProperTear (good_is e) p
tear_proper scope es Fixed t p e =
    let g = gave _ (needed number.filter_spec (named es)) t e in
    subst IsProperTear (good_is g.rest) (there IsSome number.filter_spec (named es) g.value (named_some es) g.was)
tear_proper scope es Shared t p e =
    let g = gave _ (needed number.filter_spec (named es)) t e in
    subst IsProperTear (good_is g.rest) (there IsSome number.filter_spec (named es) g.value (named_some es) g.was)

blame_proper : (scope : Option Names) (es : List Filter) (f : Option TokenBucket) (k : StyleKind) (x : Blame) → WhereThere IsScope scope
    → WhereThere IsSound f → blame_of scope es f k ≡ good x → IsProperBlame x
blame_proper scope es f Wild x p q e = subst IsProperBlame (good_is e) (p, q)
blame_proper scope es None Fixed x p q e = subst IsProperBlame (good_is e) tt
blame_proper scope es (Some f) Fixed x p q e =
    let g = gave _ (needed number.filter_spec (first_named es)) x e in
    subst IsProperBlame (good_is g.rest) (there (λ (n : Names). size n ≡ 1) number.filter_spec (first_named es) g.value (first_one es) g.was, q)
blame_proper scope es None Shared x p q e = subst IsProperBlame (good_is e) tt
blame_proper scope es (Some f) Shared x p q e =
    let g = gave _ (needed number.filter_spec (named es)) x e in
    subst IsProperBlame (good_is g.rest) (there IsSome number.filter_spec (named es) g.value (named_some es) g.was, q)

-- ---- messages

sender_proper : (s : Option Sender) (f : Option TokenBucket) (o : Option (Sender × TokenBucket)) → WhereThere IsSound f → sender_of s f ≡ good o
    → WhereThere (λ (e : Sender × TokenBucket). IsSound e.1) o
sender_proper (Some s) (Some f) o h e = subst (WhereThere HasSoundFlow) (good_is e) h
sender_proper (Some s) None o h e = absurd cc
sender_proper None (Some f) o h e = absurd cc
sender_proper None None o h e = subst (WhereThere HasSoundFlow) (good_is e) tt

made_proper : (s : Seen) → IsSeenProper s → HoldsByParts IsProper s
made_proper s h =
    record {
      path = λ x hop t o _ _ _ sent. (sender_proper s.template s.tspec o h.tspec sent, h.advert);
      resv = λ x hop t k f a _ _ _ flow asked. ask_proper s.scope s.due s.filters f k a h.scope h.filters
          (there IsSound number.flowspec s.flow f h.flow flow) asked;
      path_err = λ x e _ _. tt;
      resv_err = λ x hop e k b _ _ _ blamed. blame_proper s.scope s.filters s.flow k b h.scope h.flow blamed;
      path_tear = λ x hop _ _. tt;
      resv_tear = λ x hop k t _ _ torn. tear_proper s.scope s.filters k t h.scope torn;
      resv_conf = λ x e k f a c _ _ flow asked _. (
        ask_proper None s.due s.filters f k a tt h.filters (there IsSound number.flowspec s.flow f h.flow flow) asked,
        no_scope s.due s.filters f k a asked,
      );
    }

pub what_is_spelt_is_proper : WhatIsSpeltIsProper
what_is_spelt_is_proper b v bytes s =
    let says = says_of b v s.1 in
    by_parts IsProper (seen_of says.0)
    (made_proper (seen_of says.0) (seen_proper says.0 (all_said (kind_of v) b [] 8 says.0 (length b) bytes says.1))) (kind_of v) v says.2

-- ---- bytes of a slice

pub bytes_of : (b : List ℕ) → ((i : ℕ) → get_or b i 0 < 256) → AreBytes b
bytes_of [] h = tt
bytes_of (x ∷ xs) h = (omega (arith, h 0), bytes_of xs (λ i. h (suc i)))
