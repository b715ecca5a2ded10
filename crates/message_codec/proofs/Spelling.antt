-- The grammar and the walk are one: objects that stand where each may, and make a message, are in the grammar of its kind and
-- mean it; and what is in the grammar stands.
use Rattle.std.proofs.Common.{◌≡◌, ℕ, Bool, true, false, List, [], ◌∷◌, ◌++◌, length, drop, Option, Some, None, Result, Ok, refl, sym, ap, subst, ◌∙◌, append_assoc, inl, inr}
use Rattle.std.specs.Prelude.{not, is_some, ◌||◌, ◌==◌, if◌then◌else◌}
use Rattle.std.proofs.lemmas.Bool.{eqb-true}
use Rattle.std.proofs.lemmas.List.{append-nil}
use Rattle.rsvp_base.specs.declared.addr.Addr.{Addr}
use Rattle.rsvp_base.specs.declared.err_spec.ErrSpec.{ErrSpec}
use Rattle.rsvp_base.specs.declared.hop.Hop.{Hop}
use Rattle.rsvp_base.specs.declared.session.Sender.{Sender}
use Rattle.rsvp_base.specs.declared.session.Session.{Session}
use Rattle.rsvp_base.specs.declared.style.StyleKind.{StyleKind}
use Rattle.rsvp_base.specs.TokenBucket.{TokenBucket}
use Rattle.rsvp_objects.specs.Classes as number
use Rattle.rsvp_objects.specs.declared.adspec.Adspec.{Adspec}
use Rattle.rsvp_objects.specs.declared.read_class.ReadClass.{ReadClass}
use Rattle.rsvp_objects.specs.declared.head.Head.{Head}
use Rattle.rsvp_objects.specs.declared.object.Object.{Object}
use Rattle.rsvp_objects.specs.declared.obj_err.ObjErr.{ObjErr}
use Rattle.rsvp_objects.specs.Classes.{is_skipped, class_with}
use Rattle.rsvp_objects.specs.Fields.{AreBytes}
use Rattle.rsvp_objects.specs.Proper.{class_of}
use Rattle.rsvp_objects.specs.Reading.{head_of, by_class, body_of, contents_at}
use Rattle.rsvp_objects.proofs.Choices.{chosen}
use Rattle.rsvp_objects.proofs.Classes.{objects_have_their_class}
use Rattle.rsvp_messages.specs.declared.ask.Ask.{Ask}
use Rattle.rsvp_messages.specs.declared.ask.Blame.{Blame}
use Rattle.rsvp_messages.specs.declared.ask.Tear.{Tear}
use Rattle.rsvp_messages.specs.declared.message.Kind.{Kind}
use Rattle.rsvp_messages.specs.declared.message.Kind.TheVariants as kind
use Rattle.rsvp_messages.specs.declared.message.Message.{Message}
use Rattle.rsvp_messages.specs.declared.message.Message.TheVariants as message
use Rattle.rsvp_messages.specs.Kinds.{kind_of}
use Rattle.message_codec.specs.declared.role.Role.TheVariants.{Needed, Once, Unread, Nowhere}
use Rattle.message_codec.specs.declared.seen.Seen.{Seen}
use Rattle.message_codec.specs.Grammar.{Reads, IsInGrammar, Means, IsMessage}
use Rattle.message_codec.specs.Laws.{IsInPlace}
use Rattle.message_codec.specs.Messages.{needed, sender_of, ask_of, tear_of, blame_of, path_of, resv_of, path_err_of, resv_err_of, path_tear_of, resv_tear_of, resv_conf_of, message_of}
use Rattle.message_codec.specs.Places.{read_in, name_fault, is_unknown, by_head, has_place, is_repeated, object_in, Stand}
use Rattle.message_codec.specs.Said.{seen_of}
use Rattle.message_codec.specs.Spells.{header_of, Says, Spells}
use Rattle.message_codec.specs.Table.{row_of, is_among, role_of, is_tear_flow, is_unread_role, is_unread}
use Rattle.message_codec.proofs.Grammar.{what_is_in_grammar_is_in_place, what_stands_is_in_grammar}
use Rattle.message_codec.proofs.Made.{gave}
use Rattle.message_codec.proofs.Placed.{read_where_placed}
use Rattle.message_codec.proofs.Standing.{good, good_is}

-- ---- what stands is read

pub reads_of : (kind : Kind) (b : List ℕ) (before : List Object) (at : ℕ) (xs : List Object) (end : ℕ) → Stand kind b before at xs end
    → Reads kind b at xs end
reads_of kind b before at [] end s = s
reads_of kind b before at (x ∷ xs) end s =
    let r = read_where_placed kind (seen_of before) at b x s.0 s.1 in
    let rest = reads_of kind b (before ++ x ∷ []) s.0 xs end s.2 in
    (r.0, r.1, r.2, subst (λ (n : ℕ). Reads kind b n xs end) (sym r.3) rest)

-- ---- what is read has a known class

unread_row : (a b c : Bool) → is_unread_role (if a then Needed else if b then Once else if c then Unread else Nowhere) ≡ true → c ≡ true
unread_row true b c e = absurd cc
unread_row false true c e = absurd cc
unread_row false false true e = refl
unread_row false false false e = absurd cc

abbrev IsKnown : ℕ → Type 0
IsKnown n = is_unknown n ≡ false

one_known : (n m : ℕ) (rest : Bool) → IsKnown m → (rest ≡ true → IsKnown n) → (n == m || rest) ≡ true → IsKnown n
one_known n m rest k more e = by_test (n == m) refl e
  where
    by_test : (t : Bool) → (n == m) ≡ t → (t || rest) ≡ true → IsKnown n
    by_test true is e = subst IsKnown (sym (eqb-true n m is)) k
    by_test false is e = more e

known_unread : (k : Kind) (n : ℕ) → is_among n (row_of k).unread ≡ true → IsKnown n
unfolding class_with
known_unread kind.Path n e = one_known n number.policy_data false refl (λ z. absurd cc) e
known_unread kind.Resv n e = one_known n number.policy_data false refl (λ z. absurd cc) e
known_unread kind.PathErr n e =
    one_known n number.sender_tspec _ refl
    (λ e. one_known n number.adspec _ refl (λ e. one_known n number.policy_data false refl (λ z. absurd cc) e) e) e
known_unread kind.ResvErr n e = one_known n number.policy_data false refl (λ z. absurd cc) e
known_unread kind.PathTear n e =
    one_known n number.sender_tspec _ refl
    (λ e. one_known n number.adspec _ refl (λ e. one_known n number.policy_data false refl (λ z. absurd cc) e) e) e
known_unread kind.ResvTear n e = one_known n number.policy_data false refl (λ z. absurd cc) e
known_unread kind.ResvConf n e = one_known n number.policy_data false refl (λ z. absurd cc) e

known_by_role : (k : Kind) (n : ℕ) → is_unread_role (role_of k n) ≡ true → IsKnown n
unfolding role_of
known_by_role k n e = known_unread k n (unread_row (is_among n (row_of k).needed) (is_among n (row_of k).once) (is_among n (row_of k).unread) e)

known_flow : (k : Kind) (n : ℕ) (rest : Bool) → (rest ≡ true → IsKnown n) → (is_tear_flow k n || rest) ≡ true → IsKnown n
unfolding class_with
known_flow kind.ResvTear n rest more e = one_known n number.flowspec rest refl more e
known_flow kind.Path n rest more e = more e
known_flow kind.Resv n rest more e = more e
known_flow kind.PathErr n rest more e = more e
known_flow kind.ResvErr n rest more e = more e
known_flow kind.PathTear n rest more e = more e
known_flow kind.ResvConf n rest more e = more e

or_some : (a : Bool) (o : Option ReadClass) → (a ≡ true) → not (a || is_some o) ≡ false
or_some true o e = refl
or_some false o e = absurd cc

known_class : (at n ctype : ℕ) (body : List ℕ) (x : Object) (a : Bool) (c : Option ReadClass) → a ≡ false
    → ◌≡◌ {A = Result Object ObjErr} (by_class at n ctype body c) (Ok x) → not (a || is_some c) ≡ false
known_class at n ctype body x true c none e = refl
known_class at n ctype body x false None none e = absurd cc
known_class at n ctype body x false (Some c) none e = refl

known_body : (at n ctype : ℕ) (body : List ℕ) (x : Object) → ◌≡◌ {A = Result Object ObjErr} (body_of at n ctype body) (Ok x) → IsKnown n
unfolding body_of
known_body at n ctype body x e =
    elim (chosen (is_skipped n) _ _ _ e) [
      | inl p ↦ or_some (is_skipped n) (class_with n) p.0
      | inr p ↦ known_class at n ctype body x (is_skipped n) (class_with n) p.0 p.1
    ]

known_read : (kind : Kind) (at n ctype : ℕ) (body : List ℕ) (x : Object) → ◌≡◌ {A = Result Object ObjErr} (read_in kind at n ctype body) (Ok x)
    → IsKnown n
known_read kind at n ctype body x e =
    elim (chosen (is_unread kind n) _ _ _ e) [
      | inl p ↦ known_flow kind n (is_unread_role (role_of kind n)) (known_by_role kind n) p.0
      | inr p ↦ known_body at n ctype body x p.1
    ]

read_is : {x y : Object} → ◌≡◌ {A = Result Object ObjErr} (Ok x) (Ok y) → x ≡ y
read_is e = cc

class_read : (kind : Kind) (at n ctype : ℕ) (body : List ℕ) (x : Object) → ◌≡◌ {A = Result Object ObjErr} (read_in kind at n ctype body) (Ok x)
    → class_of x ≡ n
class_read kind at n ctype body x e =
    elim (chosen (is_unread kind n) _ _ _ e) [
      | inl p ↦ ap class_of (sym (read_is p.1))
      | inr p ↦ objects_have_their_class at n ctype body x p.1
    ]

-- ---- what is in the grammar stands

by_parts_of_place : (kind : Kind) (s : Seen) (at : ℕ) (b : List ℕ) (h : Head) (x : Object) → is_unknown h.class.0 ≡ false
    → has_place kind s h.class.0 ≡ true → is_repeated kind s h.class.0 ≡ false
    → ◌≡◌ {A = Result Object ObjErr} (read_in kind at h.class.0 h.ctype (contents_at at h b)) (Ok x) → name_fault at s x ≡ None
    → by_head kind s at b (Ok h) ≡ Ok (x, h.end)
by_parts_of_place kind s at b h x known place once read name = rw (known, place, once, read, name) refl

stands_at : (kind : Kind) (before : List Object) (at : ℕ) (b : List ℕ) (h : Head) (x : Object)
    → ◌≡◌ {A = Result Head ObjErr} (head_of at (drop at b)) (Ok h)
    → ◌≡◌ {A = Result Object ObjErr} (read_in kind at h.class.0 h.ctype (contents_at at h b)) (Ok x) → IsInPlace kind before x
    → object_in kind (seen_of before) at b ≡ Ok (x, h.end)
unfolding object_in
stands_at kind before at b h x head read p =
    let class = class_read kind at h.class.0 h.ctype (contents_at at h b) x read in
    ap (by_head kind (seen_of before) at b) head
    ∙ by_parts_of_place kind (seen_of before) at b h x (known_read kind at h.class.0 h.ctype (contents_at at h b) x read)
    (subst (λ (n : ℕ). has_place kind (seen_of before) n ≡ true) class p.place)
    (subst (λ (n : ℕ). is_repeated kind (seen_of before) n ≡ false) class p.once) read (p.name at)

stands_of : (kind : Kind) (b : List ℕ) (before : List Object) (at : ℕ) (xs : List Object) (end : ℕ) → Reads kind b at xs end
    → ((some after : List Object) (x : Object) → xs ≡ some ++ x ∷ after → IsInPlace kind (before ++ some) x) → Stand kind b before at xs end
stands_of kind b before at [] end r place = r
stands_of kind b before at (x ∷ xs) end r place =
    let p : IsInPlace kind before x = subst (λ (ys : List Object). IsInPlace kind ys x) (append-nil before) (place [] xs x refl) in (
      r.0.end,
      stands_at kind before at b r.0 x r.1 r.2 p,
      stands_of kind b (before ++ x ∷ []) r.0.end xs end r.3
          (λ some after y e. subst (λ (ys : List Object). IsInPlace kind ys y) (sym (append_assoc before (x ∷ []) some))
          (place (x ∷ some) after y (ap (λ (zs : List Object). x ∷ zs) e))),
    )

grammar_stands : (kind : Kind) (b : List ℕ) (xs : List Object) (end : ℕ) → Reads kind b 8 xs end → IsInGrammar kind xs → Stand kind b [] 8 xs end
grammar_stands kind b xs end r g =
    stands_of kind b [] 8 xs end r (λ some after x e. what_is_in_grammar_is_in_place kind some after x (subst (IsInGrammar kind) e g))

-- ---- what a message was made of is what it means

given : {A : Type 0} (n : ℕ) (o : Option A) (x : A) → needed n o ≡ good x → o ≡ Some x
given n (Some y) x e = ap (λ z. Some z) (good_is e)
given n None x e = absurd cc

abbrev IsMade : List Object → Kind → Message → Type 0
IsMade xs k v = (kind_of v ≡ k) × Means xs v

means : (xs : List Object) (k : Kind) (v : Message) → message_of k (seen_of xs) ≡ good v → IsMade xs k v
unfolding message_of path_of resv_of path_err_of resv_err_of path_tear_of resv_tear_of resv_conf_of
means xs kind.Path v e =
    let s = seen_of xs in
    let who = gave _ (needed number.session s.session) v e in
    let hop = gave _ (needed number.rsvp_hop s.hop) v who.rest in
    let period = gave _ (needed number.time_values s.period) v hop.rest in
    let sender = gave _ (sender_of s.template s.tspec) v period.rest in
    subst (IsMade xs kind.Path) (good_is sender.rest) (
      refl,
      record {
        session = given number.session s.session who.value who.was;
        hop = given number.rsvp_hop s.hop hop.value hop.was;
        period = given number.time_values s.period period.value period.was;
        sender = sender.was;
        adspec = refl;
      },
    )
means xs kind.Resv v e =
    let s = seen_of xs in
    let who = gave _ (needed number.session s.session) v e in
    let hop = gave _ (needed number.rsvp_hop s.hop) v who.rest in
    let period = gave _ (needed number.time_values s.period) v hop.rest in
    let style = gave _ (needed number.style s.style) v period.rest in
    let flow = gave _ (needed number.flowspec s.flow) v style.rest in
    let a = gave _ (ask_of s.scope s.due s.filters flow.value style.value) v flow.rest in
    subst (IsMade xs kind.Resv) (good_is a.rest) (
      refl,
      record {
        session = (who.value.1, given number.session s.session who.value who.was);
        hop = given number.rsvp_hop s.hop hop.value hop.was;
        period = given number.time_values s.period period.value period.was;
        confirm = refl;
        asks = (style.value, given number.style s.style style.value style.was, flow.value, given number.flowspec s.flow flow.value flow.was, a.was);
      },
    )
means xs kind.PathErr v e =
    let s = seen_of xs in
    let who = gave _ (needed number.session s.session) v e in
    let err = gave _ (needed number.error_spec s.error) v who.rest in
    subst (IsMade xs kind.PathErr) (good_is err.rest) (
      refl,
      record {
        session = (who.value.1, given number.session s.session who.value who.was);
        error = given number.error_spec s.error err.value err.was;
        sender = refl;
      },
    )
means xs kind.ResvErr v e =
    let s = seen_of xs in
    let who = gave _ (needed number.session s.session) v e in
    let hop = gave _ (needed number.rsvp_hop s.hop) v who.rest in
    let err = gave _ (needed number.error_spec s.error) v hop.rest in
    let style = gave _ (needed number.style s.style) v err.rest in
    let blame = gave _ (blame_of s.scope s.filters s.flow style.value) v style.rest in
    subst (IsMade xs kind.ResvErr) (good_is blame.rest) (
      refl,
      record {
        session = (who.value.1, given number.session s.session who.value who.was);
        hop = given number.rsvp_hop s.hop hop.value hop.was;
        error = given number.error_spec s.error err.value err.was;
        blames = (style.value, given number.style s.style style.value style.was, blame.was);
      },
    )
means xs kind.PathTear v e =
    let s = seen_of xs in
    let who = gave _ (needed number.session s.session) v e in
    let hop = gave _ (needed number.rsvp_hop s.hop) v who.rest in
    subst (IsMade xs kind.PathTear) (good_is hop.rest) (
      refl,
      record {
        session = (who.value.1, given number.session s.session who.value who.was);
        hop = given number.rsvp_hop s.hop hop.value hop.was;
        sender = refl;
      },
    )
means xs kind.ResvTear v e =
    let s = seen_of xs in
    let who = gave _ (needed number.session s.session) v e in
    let hop = gave _ (needed number.rsvp_hop s.hop) v who.rest in
    let style = gave _ (needed number.style s.style) v hop.rest in
    let t = gave _ (tear_of s.scope s.filters style.value) v style.rest in
    subst (IsMade xs kind.ResvTear) (good_is t.rest) (
      refl,
      record {
        session = (who.value.1, given number.session s.session who.value who.was);
        hop = given number.rsvp_hop s.hop hop.value hop.was;
        tears = (style.value, given number.style s.style style.value style.was, t.was);
      },
    )
means xs kind.ResvConf v e =
    let s = seen_of xs in
    let who = gave _ (needed number.session s.session) v e in
    let err = gave _ (needed number.error_spec s.error) v who.rest in
    let style = gave _ (needed number.style s.style) v err.rest in
    let flow = gave _ (needed number.flowspec s.flow) v style.rest in
    let a = gave _ (ask_of None s.due s.filters flow.value style.value) v flow.rest in
    let confirm = gave _ (needed number.resv_confirm s.confirm) v a.rest in
    subst (IsMade xs kind.ResvConf) (good_is confirm.rest) (
      refl,
      record {
        session = (who.value.1, given number.session s.session who.value who.was);
        error = given number.error_spec s.error err.value err.was;
        confirm = given number.resv_confirm s.confirm confirm.value confirm.was;
        asks = (style.value, given number.style s.style style.value style.was, flow.value, given number.flowspec s.flow flow.value flow.was, a.was);
      },
    )

-- ---- and the other way round

path_made : (s : Seen) (x : Session × Bool) (h : Hop) (t : ℕ) (o : Option (Sender × TokenBucket)) (a : Option Adspec) → s.session ≡ Some x
    → s.hop ≡ Some h → s.period ≡ Some t → sender_of s.template s.tspec ≡ good o → s.advert ≡ a
    → message_of kind.Path s ≡ good (message.Path (record { session = x.0; police = x.1; hop = h; period = t; sender = o; adspec = a }))
unfolding message_of path_of
path_made s x h t o a e1 e2 e3 e4 e5 = rw (e1, e2, e3, e4, e5) refl

resv_made : (s : Seen) (x : Session × Bool) (h : Hop) (t : ℕ) (c : Option Addr) (k : StyleKind) (f : TokenBucket) (a : Ask) → s.session ≡ Some x
    → s.hop ≡ Some h → s.period ≡ Some t → s.confirm ≡ c → s.style ≡ Some k → s.flow ≡ Some f → ask_of s.scope s.due s.filters f k ≡ good a
    → message_of kind.Resv s ≡ good (message.Resv (record { session = x.0; hop = h; period = t; confirm = c; ask = a }))
unfolding message_of resv_of
resv_made s x h t c k f a e1 e2 e3 e4 e5 e6 e7 = rw (e1, e2, e3, e4, e5, e6, e7) refl

path_err_made : (s : Seen) (x : Session × Bool) (e : ErrSpec) (o : Option Sender) → s.session ≡ Some x → s.error ≡ Some e → s.template ≡ o
    → message_of kind.PathErr s ≡ good (message.PathErr (record { session = x.0; err = e; sender = o }))
unfolding message_of path_err_of
path_err_made s x e o e1 e2 e3 = rw (e1, e2, e3) refl

resv_err_made : (s : Seen) (x : Session × Bool) (h : Hop) (e : ErrSpec) (k : StyleKind) (b : Blame) → s.session ≡ Some x → s.hop ≡ Some h
    → s.error ≡ Some e → s.style ≡ Some k → blame_of s.scope s.filters s.flow k ≡ good b
    → message_of kind.ResvErr s ≡ good (message.ResvErr (record { session = x.0; hop = h; err = e; blame = b }))
unfolding message_of resv_err_of
resv_err_made s x h e k b e1 e2 e3 e4 e5 = rw (e1, e2, e3, e4, e5) refl

path_tear_made : (s : Seen) (x : Session × Bool) (h : Hop) (o : Option Sender) → s.session ≡ Some x → s.hop ≡ Some h → s.template ≡ o
    → message_of kind.PathTear s ≡ good (message.PathTear (record { session = x.0; hop = h; sender = o }))
unfolding message_of path_tear_of
path_tear_made s x h o e1 e2 e3 = rw (e1, e2, e3) refl

resv_tear_made : (s : Seen) (x : Session × Bool) (h : Hop) (k : StyleKind) (t : Tear) → s.session ≡ Some x → s.hop ≡ Some h → s.style ≡ Some k
    → tear_of s.scope s.filters k ≡ good t
    → message_of kind.ResvTear s ≡ good (message.ResvTear (record { session = x.0; hop = h; tear = t }))
unfolding message_of resv_tear_of
resv_tear_made s x h k t e1 e2 e3 e4 = rw (e1, e2, e3, e4) refl

resv_conf_made : (s : Seen) (x : Session × Bool) (e : ErrSpec) (k : StyleKind) (f : TokenBucket) (a : Ask) (c : Addr) → s.session ≡ Some x
    → s.error ≡ Some e → s.style ≡ Some k → s.flow ≡ Some f → ask_of None s.due s.filters f k ≡ good a → s.confirm ≡ Some c
    → message_of kind.ResvConf s ≡ good (message.ResvConf (record { session = x.0; err = e; confirm = c; ask = a }))
unfolding message_of resv_conf_of
resv_conf_made s x e k f a c e1 e2 e3 e4 e5 e6 = rw (e1, e2, e3, e4, e5, e6) refl

made : (xs : List Object) (v : Message) → Means xs v → message_of (kind_of v) (seen_of xs) ≡ good v
made xs (message.Path m) h = path_made (seen_of xs) (m.session, m.police) m.hop m.period m.sender m.adspec h.session h.hop h.period h.sender h.adspec
made xs (message.Resv m) h =
    resv_made (seen_of xs) (m.session, h.session.0) m.hop m.period m.confirm h.asks.0 h.asks.2 m.ask h.session.1 h.hop h.period h.confirm h.asks.1
    h.asks.3 h.asks.4
made xs (message.PathErr m) h = path_err_made (seen_of xs) (m.session, h.session.0) m.err m.sender h.session.1 h.error h.sender
made xs (message.ResvErr m) h =
    resv_err_made (seen_of xs) (m.session, h.session.0) m.hop m.err h.blames.0 m.blame h.session.1 h.hop h.error h.blames.1 h.blames.2
made xs (message.PathTear m) h = path_tear_made (seen_of xs) (m.session, h.session.0) m.hop m.sender h.session.1 h.hop h.sender
made xs (message.ResvTear m) h = resv_tear_made (seen_of xs) (m.session, h.session.0) m.hop h.tears.0 m.tear h.session.1 h.hop h.tears.1 h.tears.2
made xs (message.ResvConf m) h =
    resv_conf_made (seen_of xs) (m.session, h.session.0) m.err h.asks.0 h.asks.2 m.ask m.confirm h.session.1 h.error h.asks.1 h.asks.3 h.asks.4
    h.confirm

-- ---- the whole

pub says_of : (b : List ℕ) (v : Message) → IsMessage b v → Says (kind_of v) b v
says_of b v m = (m.0, grammar_stands (kind_of v) b m.0 (length b) m.1 m.2, made m.0 v m.3)

-- bytes spell a message, of which this is the kind
abbrev IsSpelt : List ℕ → Message → Kind → Type 0
IsSpelt b v k = (header_of b ≡ good k) × ((xs : List Object) × Reads k b 8 xs (length b) × IsInGrammar k xs × Means xs v)

pub spells_of : (k : Kind) (b : List ℕ) (v : Message) → AreBytes b → header_of b ≡ good k → Says k b v → Spells b v
spells_of k b v bytes header s =
    let m = means s.0 k v s.2 in
    let is = what_stands_is_in_grammar k b s.0 (length b) bytes s.1 in
    let whole : IsSpelt b v k = (header, (s.0, reads_of k b [] 8 s.0 (length b) s.1, is, m.1)) in
    subst (IsSpelt b v) (sym m.0) whole
