-- What the steps of a run write: lines that say of no end that it holds more than its capacity, while no book passes its capacity.
use Rattle.std.proofs.Common.{◌≡◌, ℕ, ◌<◌, ◌≤◌, ◌^◌, List, [], ◌∷◌, ◌++◌, Bool, true, false, cond, Option, None, Some, length, refl, sym, ap, subst, ◌∙◌, arith, append_assoc}
use Rattle.std.specs.Prelude.{codes, map as each, slice_get}
use Rattle.std.specs.Fmt.{decimal}
use Rattle.std.specs.List.{flat_map, list_all, range_with_len}
use Rattle.rsvp_base.specs.declared.entry_key.EntryKey.{EntryKey}
use Rattle.rsvp_base.specs.declared.part.Part.{Part}
use Rattle.script_words.specs.Words.{words_of}
use Rattle.rsvp_base.specs.declared.session.Sender.{Sender}
use Rattle.rsvp_base.specs.declared.session.Session.{Session}
use Rattle.value_texts.specs.AdspecText.{adspec_words, broken_text, load_text, packet_text, rate_text}
use Rattle.value_texts.specs.Reports.{entry_text, head_text, held_of}
use Rattle.value_texts.specs.Texts.{peak_text, sender_text, session_text}
use Rattle.network_model.specs.RouterRules.Adverts.{adverts_at}
use Rattle.network_model.specs.RouterRules.RsvpMessages.RsvpObjects.declared.adspec.Adspec.{Adspec}
use Rattle.network_model.specs.RouterRules.RsvpMessages.declared.message.Kind.{Kind}
use Rattle.network_model.specs.RouterRules.RsvpMessages.declared.message.Kind.TheVariants as kind
use Rattle.network_model.specs.RouterRules.RsvpMessages.Kinds.{kind_of}
use Rattle.network_model.specs.RouterRules.Books.{book}
use Rattle.network_model.specs.RouterRules.Facts.{Facts}
use Rattle.network_model.specs.RouterRules.Flags.{entries_at, entry_at}
use Rattle.network_model.specs.RouterRules.Inputs.{Arrival, Spelt, Unspelt}
use Rattle.network_model.specs.RouterRules.NodeConfig.{NodeConfig}
use Rattle.network_model.specs.RouterRules.declared.answers.Heard.{Heard}
use Rattle.network_model.specs.RouterRules.declared.answers.Heard.TheVariants as heard
use Rattle.network_model.specs.RouterRules.declared.answers.Why.{Why}
use Rattle.network_model.specs.RouterRules.declared.answers.Why.TheVariants as why
use Rattle.network_model.specs.RouterRules.declared.entry.Entry.{Entry}
use Rattle.network_model.specs.RouterRules.declared.entry.Police.{Police}
use Rattle.network_model.specs.TreeModel.declared.hops.End.{End}
use Rattle.network_model.specs.TreeModel.Networks.{iface_of}
use Rattle.network_model.specs.Runs.{adverts_report, arrival_text, delivery_text, end_report, flags_report, heard_line, heard_text, is_crowded, kind_text, node_facts, plain_report, text_of, uncrowded}
use Rattle.network_model.specs.Runs.{whole_report, why_text, with_parts, written}
use Rattle.network_model.specs.Steps.{Step, Piece, Deliver, Lose, Copy, At, ClearAt, Trace, Report, Flags, Adverts, Inject, Reroute, step, outcome, machine}
use Rattle.network_model.specs.Texts.{advert_text, flag_text, flagged_text, police_text}
use Rattle.network_model.specs.Worlds.{Item, World, config_of}
use Rattle.laws_network.proofs.Keeping.{ends_same}
use Rattle.calm_rounds.specs.Hold.{Visited}
use Rattle.laws_safety.specs.Books.{AreBooksWithinCapacity}
use Rattle.laws_texts.specs.Reading.{IsWithin}
use Rattle.laws_texts.proofs.Bytes.{digits_visible, is_before_e, lacks}
use Rattle.laws_texts.proofs.Heads.{IsWord, no_feed_both, peak_seen, sender_before_e, sender_word, session_word, told_entry, told_head}
use Rattle.laws_texts.proofs.Lines.{IsTold, no_feed, told_both, told_each, told_line, told_none, word_first, word_last}

-- ---- what is heard: its third word is no `held`
said_why : (w : Why) → IsWord (why_text w)
said_why why.Unspelt = (omega arith, refl)
said_why why.NotMine = (omega arith, refl)
said_why why.NoSender = (omega arith, refl)
said_why why.NotInward = (omega arith, refl)
said_why why.NotOutward = (omega arith, refl)
said_why why.NoState = (omega arith, refl)
said_why why.Full = (omega arith, refl)

said_kind : (a : Arrival) → IsWord (arrival_text a)
said_kind (Unspelt e) = (omega arith, refl)
said_kind (Spelt m) = by (kind_of m)
  where
    by : (k : Kind) → IsWord (kind_text k)
    by kind.Path = (omega arith, refl)
    by kind.Resv = (omega arith, refl)
    by kind.PathErr = (omega arith, refl)
    by kind.ResvErr = (omega arith, refl)
    by kind.PathTear = (omega arith, refl)
    by kind.ResvTear = (omega arith, refl)
    by kind.ResvConf = (omega arith, refl)

-- the first word of what is heard
outcome_word : Heard → List ℕ
outcome_word heard.Taken = codes "taken"
outcome_word (heard.Dropped w) = codes "dropped"
outcome_word (heard.Answered code value) = codes "answered"

-- it is longer than `held`
longer : (h : Heard) → 4 < length (outcome_word h)
unfolding outcome_word
longer heard.Taken = omega arith
longer (heard.Dropped w) = omega arith
longer (heard.Answered code value) = omega arith

outcome_words : (h : Heard) → (more : List (List ℕ)) × (words_of (heard_text h) ≡ outcome_word h ∷ more)
unfolding outcome_word
outcome_words heard.Taken = ([], word_last (codes "taken") (omega arith) refl)
outcome_words (heard.Dropped w) = (words_of (why_text w), word_first (codes "dropped") (why_text w) (omega arith) refl)
outcome_words (heard.Answered code value) =
    (words_of (decimal code ++ codes "/" ++ decimal value), word_first (codes "answered") (decimal code ++ codes "/" ++ decimal value) (omega arith) refl)

outcome_lacks : (h : Heard) → lacks 10 (heard_text h) ≡ true
outcome_lacks heard.Taken = refl
outcome_lacks (heard.Dropped w) = no_feed_both (codes "dropped ") (why_text w) refl (no_feed (why_text w) (said_why w).1)
outcome_lacks (heard.Answered code value) =
    no_feed_both (codes "answered " ++ decimal code ++ codes "/") (decimal value)
    (no_feed_both (codes "answered " ++ decimal code) (codes "/") (no_feed_both (codes "answered ") (decimal code) refl (no_feed (decimal code) (digits_visible code))) refl)
    (no_feed (decimal value) (digits_visible value))

third_of : List (List ℕ) → List ℕ
third_of (a ∷ b ∷ c ∷ more) = c
third_of _ = []

module _ (name : List ℕ) (is : IsWord name) (a : Arrival) (h : Heard) where
  delivery_line : List ℕ
  delivery_line = name ++ codes " " ++ arrival_text a ++ codes " " ++ heard_text h

  delivery_parts : delivery_line ≡ name ++ 32 ∷ (arrival_text a ++ 32 ∷ heard_text h)
  unfolding delivery_line
  delivery_parts =
      append_assoc (name ++ codes " " ++ arrival_text a) (codes " ") (heard_text h) ∙ append_assoc (name ++ codes " ") (arrival_text a) (32 ∷ heard_text h)
      ∙ append_assoc name (codes " ") (arrival_text a ++ 32 ∷ heard_text h)

  delivery_words : words_of delivery_line ≡ name ∷ arrival_text a ∷ outcome_word h ∷ (outcome_words h).0
  delivery_words =
      ap words_of delivery_parts ∙ word_first name (arrival_text a ++ 32 ∷ heard_text h) is.0 is.1
      ∙ ap (λ (ws : List (List ℕ)). name ∷ ws) (word_first (arrival_text a) (heard_text h) (said_kind a).0 (said_kind a).1)
      ∙ ap (λ (ws : List (List ℕ)). name ∷ arrival_text a ∷ ws) (outcome_words h).1

  delivery_within : IsWithin delivery_line
  unfolding third_of
  delivery_within x y head =
      let same : outcome_word h ≡ codes "held" = ap third_of (sym delivery_words ∙ head.words) in
      let size : length (outcome_word h) ≡ 4 = ap length same in
      absurd (omega (arith, size, longer h))

  delivery_lacks : lacks 10 delivery_line ≡ true
  unfolding delivery_line
  delivery_lacks =
      no_feed_both (name ++ codes " " ++ arrival_text a ++ codes " ") (heard_text h)
      (no_feed_both (name ++ codes " " ++ arrival_text a) (codes " ")
      (no_feed_both (name ++ codes " ") (arrival_text a) (no_feed_both name (codes " ") (no_feed name is.1) refl) (no_feed (arrival_text a) (said_kind a).1)) refl) (outcome_lacks h)

  delivery_ended : delivery_text name a h ≡ delivery_line ++ 10 ∷ []
  unfolding delivery_line
  delivery_ended = refl

  told_delivery : IsTold (delivery_text name a h)
  told_delivery = told_line (delivery_text name a h) delivery_line delivery_ended delivery_lacks delivery_within

broken_lacks : (b : Bool) → lacks 10 (broken_text b) ≡ true
broken_lacks true = refl
broken_lacks false = refl

load_lacks : (o : Option Bool) → lacks 10 (load_text o) ≡ true
load_lacks None = refl
load_lacks (Some true) = refl
load_lacks (Some false) = refl

-- ---- reports of an end
flag_lacks : (set : List ℕ) (b : Bool) → lacks 10 set ≡ true → lacks 10 (flag_text set b) ≡ true
flag_lacks set true h = h
flag_lacks set false h = refl

police_lacks : (p : Police) → lacks 10 (police_text p) ≡ true
police_lacks p =
    let e = flag_text (codes "e") p.e in
    let m = flag_text (codes "m") p.m in
    no_feed_both (codes " " ++ e ++ m) (flag_text (codes "b") p.b) (no_feed_both (codes " " ++ e) m (flag_lacks (codes "e") p.e refl) (flag_lacks (codes "m") p.m refl))
    (flag_lacks (codes "b") p.b refl)

abbrev keyed : Entry → EntryKey × Part
keyed e = (e.key, e.part)

same_rows : (p : NodeConfig) (f : Facts) (i : ℕ) (rows : List (EntryKey × Part)) → each keyed (each (entry_at p f i) rows) ≡ rows
same_rows p f i [] = refl
same_rows p f i (row ∷ rows) = ap (λ (rs : List (EntryKey × Part)). row ∷ rs) (same_rows p f i rows)

-- the report of an end that holds at most its capacity
Reports : (NodeConfig → List ℕ → End → ℕ → Facts → List ℕ) → Type 0
Reports t = (p : NodeConfig) (name : List ℕ) (x : End) (i : ℕ) (f : Facts) → IsWord name → held_of (book f i).rows ≤ x.iface.capacity → x.iface.capacity < 2 ^ 46 → IsTold (t p name x i f)

told_plain : Reports plain_report
unfolding Reports
told_plain p name x i f is within small =
    told_both (head_text name (held_of (book f i).rows) x.iface.capacity) (flat_map (λ (e : EntryKey × Part). entry_text e.0 e.1) (book f i).rows)
    (told_head name is (held_of (book f i).rows) x.iface.capacity (omega (arith, within, small)) (omega (arith, small)) within)
    (told_each (λ (e : EntryKey × Part). entry_text e.0 e.1) (λ e. told_entry e.0 e.1 [] refl) (book f i).rows)

told_flags : Reports flags_report
unfolding Reports
told_flags p name x i f is within small =
    let entries = entries_at p f i in
    let same : held_of (each keyed entries) ≡ held_of (book f i).rows = ap held_of (same_rows p f i (book f i).rows) in
    told_both (head_text name (held_of (each keyed entries)) x.iface.capacity) (flat_map flagged_text entries)
    (told_head name is (held_of (each keyed entries)) x.iface.capacity (omega (arith, same, within, small)) (omega (arith, small)) (omega (arith, same, within)))
    (told_each flagged_text (λ e. told_entry e.key e.part (police_text e.police) (police_lacks e.police)) entries)

-- ---- what the paths offer: its third word is a sender, which is no `held`
module _ (name : List ℕ) (is : IsWord name) (s : Session) (x : Sender) (a : Adspec) where
  abbrev offered : List ℕ
  offered =
      codes "hops " ++ decimal a.hops ++ codes " rate " ++ peak_text a.rate ++ packet_text a ++ broken_text a.broken ++ load_text a.load

  advert_line : List ℕ
  advert_line = name ++ codes " " ++ session_text s ++ codes " " ++ sender_text x ++ adspec_words a

  advert_parts : advert_line ≡ name ++ 32 ∷ (session_text s ++ 32 ∷ (sender_text x ++ 32 ∷ offered))
  unfolding advert_line adspec_words rate_text
  advert_parts =
      append_assoc (name ++ codes " " ++ session_text s ++ codes " ") (sender_text x) (32 ∷ offered)
      ∙ append_assoc (name ++ codes " " ++ session_text s) (codes " ") (sender_text x ++ 32 ∷ offered)
      ∙ append_assoc (name ++ codes " ") (session_text s) (32 ∷ (sender_text x ++ 32 ∷ offered))
      ∙ append_assoc name (codes " ") (session_text s ++ 32 ∷ (sender_text x ++ 32 ∷ offered))

  advert_words : words_of advert_line ≡ name ∷ session_text s ∷ sender_text x ∷ words_of offered
  advert_words =
      ap words_of advert_parts ∙ word_first name (session_text s ++ 32 ∷ (sender_text x ++ 32 ∷ offered)) is.0 is.1
      ∙ ap (λ (ws : List (List ℕ)). name ∷ ws) (word_first (session_text s) (sender_text x ++ 32 ∷ offered) (session_word s).0 (session_word s).1)
      ∙ ap (λ (ws : List (List ℕ)). name ∷ session_text s ∷ ws) (word_first (sender_text x) offered (sender_word x).0 (sender_word x).1)

  -- a sender has no letter
  advert_within : IsWithin advert_line
  unfolding third_of
  advert_within p q head =
      let same : sender_text x ≡ codes "held" = ap third_of (sym advert_words ∙ head.words) in
      let no : true ≡ false = sym (sender_before_e x) ∙ ap (list_all is_before_e) same in
      absurd (cc)

  offered_lacks : lacks 10 (adspec_words a) ≡ true
  unfolding adspec_words rate_text packet_text
  offered_lacks =
      let hops = no_feed_both (codes " hops ") (decimal a.hops) refl (no_feed (decimal a.hops) (digits_visible a.hops)) in
      let rate = no_feed_both (codes " hops " ++ decimal a.hops ++ codes " rate ") (peak_text a.rate) (no_feed_both (codes " hops " ++ decimal a.hops) (codes " rate ") hops refl)
      (no_feed (peak_text a.rate) (peak_seen a.rate)) in
      let latency = no_feed_both (codes " latency ") (decimal a.latency) refl (no_feed (decimal a.latency) (digits_visible a.latency)) in
      let packet = no_feed_both (codes " latency " ++ decimal a.latency ++ codes " mtu ") (decimal a.mtu) (no_feed_both (codes " latency " ++ decimal a.latency) (codes " mtu ") latency refl)
      (no_feed (decimal a.mtu) (digits_visible a.mtu)) in
      no_feed_both (rate_text a ++ packet_text a ++ broken_text a.broken) (load_text a.load)
      (no_feed_both (rate_text a ++ packet_text a) (broken_text a.broken) (no_feed_both (rate_text a) (packet_text a) rate packet) (broken_lacks a.broken)) (load_lacks a.load)

  advert_lacks : lacks 10 advert_line ≡ true
  unfolding advert_line
  advert_lacks =
      no_feed_both (name ++ codes " " ++ session_text s ++ codes " " ++ sender_text x) (adspec_words a)
      (no_feed_both (name ++ codes " " ++ session_text s ++ codes " ") (sender_text x)
      (no_feed_both (name ++ codes " " ++ session_text s) (codes " ")
      (no_feed_both (name ++ codes " ") (session_text s) (no_feed_both name (codes " ") (no_feed name is.1) refl) (no_feed (session_text s) (session_word s).1)) refl)
      (no_feed (sender_text x) (sender_word x).1))
      offered_lacks

  advert_ended : advert_text name ((s, x), a) ≡ advert_line ++ 10 ∷ []
  unfolding advert_line
  advert_ended = refl

  told_advert : IsTold (advert_text name ((s, x), a))
  told_advert = told_line (advert_text name ((s, x), a)) advert_line advert_ended advert_lacks advert_within

told_adverts : Reports adverts_report
unfolding Reports
told_adverts p name x i f is within small = told_each (advert_text name) (λ e. told_advert name is e.0.0 e.0.1 e.1) (adverts_at f i)

-- ---- what a step writes
told_parts : (t : List ℕ → End → Facts → List ℕ) (n : Option (List ℕ)) (x : Option End) (f : Option Facts)
    → ((name : List ℕ) (y : End) (g : Facts) → n ≡ Some name → x ≡ Some y → f ≡ Some g → IsTold (t name y g)) → IsTold (with_parts t n x f)
told_parts t None x f h = told_none
told_parts t (Some name) None f h = told_none
told_parts t (Some name) (Some y) None h = told_none
told_parts t (Some name) (Some y) (Some g) h = h name y g refl refl refl

told_if : (b : Bool) (text : List ℕ) → IsTold text → IsTold (cond b text [])
told_if true text h = h
told_if false text h = told_none

-- the names of ends are words, and their capacities are such as a script may give
pub record AreNamed (names : List (List ℕ)) (ends : List End) : Type 0 where
  pub words : (e : ℕ) (name : List ℕ) → slice_get names e ≡ Some name → IsWord name
  pub small : (e : ℕ) (x : End) → slice_get ends e ≡ Some x → x.iface.capacity < 2 ^ 46

module _ (q : ℕ) (names : List (List ℕ)) where
  module _ (w : World) (named : AreNamed names w.net.ends) where
    told_heard : (s : Step) (o : Option Item) → IsTold (heard_line q names s w o)
    told_heard s None = told_none
    told_heard s (Some x) =
        told_parts (λ name e f. delivery_text name x.arrival (outcome q s w e.node f).heard) (slice_get names x.end) (slice_get w.net.ends x.end) (node_facts w (slice_get w.net.ends x.end))
        (λ name y g n e f. told_delivery name (named.words x.end name n) x.arrival (outcome q s w y.node g).heard)

    module _ (booked : AreBooksWithinCapacity w) where
      told_end : (t : NodeConfig → List ℕ → End → ℕ → Facts → List ℕ) → Reports t → (e : ℕ) → IsTold (end_report q names t w e)
      unfolding Reports
      told_end t told e =
          told_parts (λ name x f. t (config_of q w.net w.trees x.node) name x (iface_of w.net.ends e) f) (slice_get names e) (slice_get w.net.ends e) (node_facts w (slice_get w.net.ends e))
          (λ name x f n there facts.
          let own : slice_get w.nodes x.node ≡ Some f = sym (ap (node_facts w) there) ∙ facts in
          told (config_of q w.net w.trees x.node) name x (iface_of w.net.ends e) f (named.words e name n) (booked e x f there own).capacity (named.small e x there))

      told_whole : (t : NodeConfig → List ℕ → End → ℕ → Facts → List ℕ) → Reports t → IsTold (whole_report q names t w)
      told_whole t told = told_each (end_report q names t w) (told_end t told) (range_with_len 0 (length w.net.ends))

      told_step : (s : Step) → IsTold (written q names s w)
      told_step (Piece ms) = told_none
      told_step (Deliver k) = told_if w.trace (heard_line q names (Deliver k) w (slice_get w.flight k)) (told_heard (Deliver k) (slice_get w.flight k))
      told_step (Lose k) = told_none
      told_step (Copy k) = told_none
      told_step (At n l) = told_none
      told_step (ClearAt n) = told_none
      told_step (Trace on) = told_none
      told_step (Report None) = told_whole plain_report told_plain
      told_step (Report (Some e)) = told_end plain_report told_plain e
      told_step Flags = told_whole flags_report told_flags
      told_step Adverts = told_whole adverts_report told_adverts
      told_step (Inject e dst a) = told_none
      told_step (Reroute g s hops) = told_none

  -- what steps write, as far as they are not crowded
  pub told_steps : (ss : List Step) (w : World) → AreNamed names w.net.ends → Visited (machine q) AreBooksWithinCapacity ss w → IsTold (text_of q names (uncrowded q ss w) w)
  told_steps [] w named v = told_none
  told_steps (s ∷ ss) w named v =
      by (is_crowded (step q s w)) (told_steps ss (step q s w) (subst (AreNamed names) (sym (ends_same s w)) named) v.1)
    where
      by : (b : Bool) → IsTold (text_of q names (uncrowded q ss (step q s w)) (step q s w)) → IsTold (text_of q names (cond b [] (s ∷ uncrowded q ss (step q s w))) w)
      by true more = told_none
      by false more = told_both (written q names s w) (text_of q names (uncrowded q ss (step q s w)) (step q s w)) (told_step w named v.0 s) more
