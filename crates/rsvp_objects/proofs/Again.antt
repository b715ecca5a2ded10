-- What was put is read again.
use Rattle.std.proofs.Common.{length-append, ◌≡◌, ℕ, ◌+◌, ◌*◌, ◌-◌, ◌/◌, ◌%◌, ◌≤◌, Bool, true, false, List, [], ◌∷◌, ◌++◌, length, take, drop, Some, None, Result, Ok, refl, sym, ap, ◌∙◌, arith}
use Rattle.std.specs.Prelude.{◌&&◌, ◌==◌}
use Rattle.std.specs.List.{AllByRecursion, flat_map}
use Rattle.std.proofs.Math.Seq.{drop-append_seam, drop-append-add}
use Rattle.std.proofs.lemmas.List.{length-map, take_at}
use Rattle.std.proofs.lemmas.List.Concat.{flat_map-cons}
use Rattle.std.proofs.lemmas.Bool.{le-leb, le-ltb, ne_eqb, eq-eqb}
use Rattle.rsvp_base.specs.Orders.{Names, names_from, senders}
use Rattle.rsvp_base.specs.Sets.{union}
use Rattle.rsvp_base.specs.Table.{empty, keys, size}
use Rattle.rsvp_base.specs.TokenBucket.{TokenBucket}
use Rattle.rsvp_base.specs.declared.flow.Peak.TheVariants.{Finite}
use Rattle.rsvp_base.specs.declared.session.Sender.{Sender}
use Rattle.rsvp_base.specs.declared.style.StyleKind.TheVariants.{Wild, Fixed, Shared}
use Rattle.rsvp_base.proofs.Lists.{with_keys-union}
use Rattle.rsvp_base.proofs.SetLaws.{same_set, has-union}
use Rattle.rsvp_objects.specs.Form.{adspec_in}
use Rattle.rsvp_objects.specs.AdspecSpelling.{adspec_bytes}
use Rattle.rsvp_objects.proofs.AdspecAgain.{few_words, read_again as adspec_again}
use Rattle.rsvp_objects.proofs.Bytes.{body_size}
use Rattle.rsvp_objects.specs.declared.object.Object.{Object}
use Rattle.rsvp_objects.specs.declared.object.Object.TheVariants as object
use Rattle.rsvp_objects.specs.declared.obj_err.ObjErr.{ObjErr}
use Rattle.rsvp_objects.specs.Fields.{byte_at, half_at, has_flag, flag_if}
use Rattle.rsvp_objects.specs.Classes.{adspec, class_with}
use Rattle.rsvp_objects.specs.Contents.{e_police, in_place, not_guilty, source, sources_in, scope_in, source_bytes, scope_bytes}
use Rattle.rsvp_objects.specs.FlowWords.{flow_in, bucket_in, flow_bytes}
use Rattle.rsvp_objects.specs.RateWord.{word_of}
use Rattle.rsvp_objects.specs.Reading.{head_of, advert_in, body_of, contents_of, by_head, with_end, object_at}
use Rattle.rsvp_objects.specs.Spelling.{spelling}
use Rattle.rsvp_objects.specs.Proper.{class_of, ctype_with, IsSource, IsFlow, IsProper, most_bytes, IsWholeWords}
use Rattle.rsvp_objects.proofs.Sources.{fours}
use Rattle.rsvp_objects.proofs.Numbers.{word_again, half_again}
use Rattle.rsvp_objects.proofs.WordLaws.{each_rate_has_one_word}

abbrev read : {A : Type 0} → A → Result A ObjErr
read x = Ok x

-- ---- flags

police_again : (b : Bool) → has_flag e_police (flag_if b e_police) ≡ b
police_again true = refl
police_again false = refl

in_place_again : (a b : Bool) → has_flag in_place (flag_if a in_place + flag_if b not_guilty) ≡ a
in_place_again true true = refl
in_place_again true false = refl
in_place_again false true = refl
in_place_again false false = refl

not_guilty_again : (a b : Bool) → has_flag not_guilty (flag_if a in_place + flag_if b not_guilty) ≡ b
not_guilty_again true true = refl
not_guilty_again true false = refl
not_guilty_again false true = refl
not_guilty_again false false = refl

-- ---- flows

flow_again : (service : ℕ) (f : TokenBucket) → IsFlow f → flow_in service (flow_bytes service f) ≡ Some f
unfolding flow_in bucket_in
flow_again service f h =
    let r = each_rate_has_one_word (Finite f.r) h.r in
    let b = each_rate_has_one_word (Finite f.b) h.b in
    let p = each_rate_has_one_word f.p h.p in
    rw (
      word_again (word_of (Finite f.r)) r.short,
      word_again (word_of (Finite f.b)) b.short,
      word_again (word_of f.p) p.short,
      word_again f.low h.low,
      word_again f.most h.most,
      r.read,
      b.read,
      p.read,
      eq-eqb service service refl,
      ne_eqb f.r 0 (λ e. let s = h.sound.rate in omega arith),
      ne_eqb f.b 0 (λ e. let s = h.sound.depth in omega arith),
      ne_eqb f.low 0 (λ e. let s = h.sound.low in omega arith),
      ne_eqb f.most 0 (λ e. let s = h.sound.most in omega arith),
    ) refl

-- ---- scopes

source_again : (s : Sender) → IsSource s → source (s.addr.0 / 16777216 % 256 * 16777216 + (s.addr.0 / 65536 % 256 * 65536 + (s.addr.0 / 256 % 256 * 256 + (s.addr.0 % 256 * 1 + 0)))) ≡ s
source_again s h = let a = word_again s.addr.0 h.addr in let p = h.port in λ i. record { addr = record { 0 = a i }; port = sym p i }

sources_again : (xs : List Sender) → AllByRecursion IsSource xs → sources_in (flat_map source_bytes xs) ≡ xs
sources_again [] h = refl
sources_again (x ∷ xs) h =
    let first = source_again x h.0 in
    let rest = sources_again xs h.1 in
    ap sources_in (flat_map-cons source_bytes x xs) ∙ (λ i. first i ∷ rest i)

names_again : (s : Names) → names_from (keys s) ≡ s
names_again s = with_keys-union empty s ∙ same_set senders (union empty s) s (λ q. has-union senders empty s q)

scope_again : (s : Names) → AllByRecursion IsSource (keys s) → scope_in (scope_bytes s) ≡ s
scope_again s h = ap names_from (sources_again (keys s) h) ∙ names_again s

scope_size : (s : Names) → length (scope_bytes s) ≡ 4 * size s
scope_size s = fours (keys s) ∙ ap (λ n. 4 * n) (length-map s.rows (λ e. e.0))

-- ---- heads

head_from : (at : ℕ) (left : List ℕ) (n : ℕ) → 4 ≤ length left → half_at 0 left ≡ n → 4 ≤ n → n % 4 ≡ 0 → n ≤ length left
    → head_of at left ≡ read (record { class = record { 0 = byte_at 2 left }; ctype = byte_at 3 left; end = at + n })
unfolding head_of
head_from at left n long is least whole fits = rw (is, le-ltb (length left) 4 long, le-leb 4 n least, whole, le-leb n (length left) fits) refl

-- the head reads as that of the object
pub head_again : (x : Object) (at : ℕ) (after : List ℕ) → IsProper x → head_of at (spelling x ++ after)
    ≡ read (record { class = record { 0 = class_of x }; ctype = ctype_with x; end = at + length (spelling x) })
unfolding head_of spelling
head_again (object.Session s p) at after h = head_from at (spelling (object.Session s p) ++ after) 12 (omega arith) refl (omega arith) refl (omega arith)
head_again (object.HopOf x) at after h = head_from at (spelling (object.HopOf x) ++ after) 12 (omega arith) refl (omega arith) refl (omega arith)
head_again (object.Time n) at after h = head_from at (spelling (object.Time n) ++ after) 8 (omega arith) refl (omega arith) refl (omega arith)
head_again (object.Error e) at after h = head_from at (spelling (object.Error e) ++ after) 12 (omega arith) refl (omega arith) refl (omega arith)
head_again (object.Scope s) at after h =
    let size = scope_size s in
    let few = h.few in
    let long = length-append (scope_bytes s) after in
    head_from at (spelling (object.Scope s) ++ after) (length (spelling (object.Scope s))) (omega arith) (omega arith) (omega arith) (omega arith) (omega arith)
head_again (object.StyleOf k) at after h = head_from at (spelling (object.StyleOf k) ++ after) 8 (omega arith) refl (omega arith) refl (omega arith)
head_again (object.FlowOf f) at after h = head_from at (spelling (object.FlowOf f) ++ after) 36 (omega arith) refl (omega arith) refl (omega arith)
head_again (object.Filter s) at after h = head_from at (spelling (object.Filter s) ++ after) 12 (omega arith) refl (omega arith) refl (omega arith)
head_again (object.Template s) at after h = head_from at (spelling (object.Template s) ++ after) 12 (omega arith) refl (omega arith) refl (omega arith)
head_again (object.Tspec f) at after h = head_from at (spelling (object.Tspec f) ++ after) 36 (omega arith) refl (omega arith) refl (omega arith)
head_again (object.Advert a) at after h =
    let size = body_size a in
    let few = few_words a.load a.others h.others.few in
    let long = length-append (adspec_bytes a) after in
    head_from at (spelling (object.Advert a) ++ after) (length (spelling (object.Advert a))) (omega arith) (omega arith) (omega arith) (omega arith) (omega arith)
head_again (object.Confirm a) at after h = head_from at (spelling (object.Confirm a) ++ after) 8 (omega arith) refl (omega arith) refl (omega arith)
head_again (object.Skipped n) at after h = head_from at (spelling (object.Skipped n) ++ after) 4 (omega arith) refl (omega arith) refl (omega arith)

no_type : (b : Bool) → (b && (0 == 2)) ≡ false
no_type true = refl
no_type false = refl

-- an object of C-Type 0 is no ADSPEC
unread : (n : ℕ) → advert_in n 0 [] ≡ None
unfolding advert_in
unread n = rw (no_type (n == adspec)) refl

-- and so do the contents behind it
pub body_again : (x : Object) (at : ℕ) (after : List ℕ) → IsProper x → body_of at (class_of x) (ctype_with x) (take (length (spelling x) - 4) (drop 4 (spelling x ++ after))) ≡ read x
unfolding body_of advert_in class_with contents_of spelling
body_again (object.Session s p) at after h =
    let g = word_again s.group.0 h.group in
    let q = half_again s.port h.port in
    let f = police_again p in
    λ i. Ok (object.Session (record { group = record { 0 = g i }; proto = s.proto; port = q i }) (f i))
body_again (object.HopOf x) at after h =
    let g = word_again x.addr.0 h.addr in
    let q = word_again x.handle h.handle in
    λ i. Ok (object.HopOf (record { addr = record { 0 = g i }; handle = q i }))
body_again (object.Time n) at after h = let g = word_again n h in λ i. Ok (object.Time (g i))
body_again (object.Error e) at after h =
    let g = word_again e.node.0 h.node in
    let a = in_place_again e.in_place e.not_guilty in
    let b = not_guilty_again e.in_place e.not_guilty in
    let q = half_again e.value h.value in
    λ i. Ok (object.Error (record { node = record { 0 = g i }; in_place = a i; not_guilty = b i; code = e.code; value = q i }))
body_again (object.Scope s) at after h =
    let k : length (spelling (object.Scope s)) - 4 ≡ length (scope_bytes s) = omega arith in
    let own : take (length (spelling (object.Scope s)) - 4) (scope_bytes s ++ after) ≡ scope_bytes s = rw k (take_at (scope_bytes s) after (length (scope_bytes s)) refl) in
    let again : scope_in (take (length (spelling (object.Scope s)) - 4) (scope_bytes s ++ after)) ≡ s = ap scope_in own ∙ scope_again s h.sources in
    rw (again, le-ltb 16 (size s) h.few) refl
body_again (object.StyleOf Wild) at after h = refl
body_again (object.StyleOf Fixed) at after h = refl
body_again (object.StyleOf Shared) at after h = refl
body_again (object.FlowOf f) at after h = rw (flow_again 5 f h) refl
body_again (object.Filter s) at after h =
    let g = word_again s.addr.0 h.addr in
    let q = half_again s.port h.port in
    λ i. Ok (object.Filter (record { addr = record { 0 = g i }; port = q i }))
body_again (object.Template s) at after h =
    let g = word_again s.addr.0 h.addr in
    let q = half_again s.port h.port in
    λ i. Ok (object.Template (record { addr = record { 0 = g i }; port = q i }))
body_again (object.Tspec f) at after h = rw (flow_again 1 f h) refl
body_again (object.Advert a) at after h =
    let k : length (spelling (object.Advert a)) - 4 ≡ length (adspec_bytes a) = omega arith in
    let own : take (length (spelling (object.Advert a)) - 4) (adspec_bytes a ++ after) ≡ adspec_bytes a = rw k (take_at (adspec_bytes a) after (length (adspec_bytes a)) refl) in
    let again : adspec_in (take (length (spelling (object.Advert a)) - 4) (adspec_bytes a ++ after)) ≡ Some a = ap adspec_in own ∙ adspec_again a h in
    rw again refl
body_again (object.Confirm a) at after h = let g = word_again a.0 h in λ i. Ok (object.Confirm (record { 0 = g i }))
body_again (object.Skipped n) at after h = rw (h.skipped, unread n) refl

-- ---- the whole

-- whole words, for each class
pub whole_words : (x : Object) → IsProper x → IsWholeWords (spelling x) (most_bytes x)
unfolding spelling
whole_words (object.Session s p) h = record { head = omega arith; words = refl; most_is = omega arith }
whole_words (object.HopOf x) h = record { head = omega arith; words = refl; most_is = omega arith }
whole_words (object.Time n) h = record { head = omega arith; words = refl; most_is = omega arith }
whole_words (object.Error e) h = record { head = omega arith; words = refl; most_is = omega arith }
whole_words (object.Scope s) h =
    let size = scope_size s in
    let few = h.few in
    record { head = omega arith; words = omega arith; most_is = omega arith }
whole_words (object.StyleOf k) h = record { head = omega arith; words = refl; most_is = omega arith }
whole_words (object.FlowOf f) h = record { head = omega arith; words = refl; most_is = omega arith }
whole_words (object.Filter s) h = record { head = omega arith; words = refl; most_is = omega arith }
whole_words (object.Template s) h = record { head = omega arith; words = refl; most_is = omega arith }
whole_words (object.Tspec f) h = record { head = omega arith; words = refl; most_is = omega arith }
whole_words (object.Advert a) h =
    let size = body_size a in
    let few = few_words a.load a.others h.others.few in
    record { head = omega arith; words = omega arith; most_is = omega arith }
whole_words (object.Confirm a) h = record { head = omega arith; words = refl; most_is = omega arith }
whole_words (object.Skipped n) h = record { head = omega arith; words = refl; most_is = omega arith }

pub by_its_head : (at : ℕ) (bytes : List ℕ) → object_at at bytes ≡ by_head at bytes (head_of at (drop at bytes))
unfolding object_at
by_its_head at bytes = refl

pub read_again : (x : Object) → IsProper x → (before after : List ℕ) → object_at (length before) (before ++ (spelling x ++ after)) ≡ Ok (x, length before + length (spelling x))
read_again x h before after =
    let here : drop (length before) (before ++ (spelling x ++ after)) ≡ spelling x ++ after = drop-append_seam before (spelling x ++ after) in
    let behind : drop (length before + 4) (before ++ (spelling x ++ after)) ≡ drop 4 (spelling x ++ after) = drop-append-add before (spelling x ++ after) 4 in
    let size : length before + length (spelling x) - (length before + 4) ≡ length (spelling x) - 4 = omega arith in
    let at = length before in
    let bytes = before ++ (spelling x ++ after) in
    let end = at + length (spelling x) in
    let own : take (end - (at + 4)) (drop (at + 4) bytes) ≡ take (length (spelling x) - 4) (drop 4 (spelling x ++ after)) = ap (λ (n : ℕ). take n (drop (at + 4) bytes)) size
    ∙ ap (take (length (spelling x) - 4)) behind in
    by_its_head at bytes
    ∙ ap (λ (left : List ℕ). by_head at bytes (head_of at left)) here
    ∙ ap (by_head at bytes) (head_again x at after h)
    ∙ ap (λ (body : List ℕ). with_end end (body_of at (class_of x) (ctype_with x) body)) own
    ∙ ap (with_end end) (body_again x at after h)
