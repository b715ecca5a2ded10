-- What a message was made of: each part that its kind needs, as it was gathered.
use Rattle.std.proofs.Common.{◌≡◌, ℕ, Bool, Option, Some, None, Result, Ok, Err, refl, subst}
use Rattle.rsvp_base.specs.declared.addr.Addr.{Addr}
use Rattle.rsvp_base.specs.declared.err_spec.ErrSpec.{ErrSpec}
use Rattle.rsvp_base.specs.declared.hop.Hop.{Hop}
use Rattle.rsvp_base.specs.declared.session.Sender.{Sender}
use Rattle.rsvp_base.specs.declared.session.Session.{Session}
use Rattle.rsvp_base.specs.declared.style.StyleKind.{StyleKind}
use Rattle.rsvp_base.specs.TokenBucket.{TokenBucket}
use Rattle.rsvp_objects.specs.Classes as number
use Rattle.rsvp_messages.specs.declared.ask.Ask.{Ask}
use Rattle.rsvp_messages.specs.declared.ask.Blame.{Blame}
use Rattle.rsvp_messages.specs.declared.ask.Tear.{Tear}
use Rattle.rsvp_messages.specs.declared.fault.Fault.{Fault}
use Rattle.rsvp_messages.specs.declared.message.Kind.{Kind}
use Rattle.rsvp_messages.specs.declared.message.Kind.TheVariants as kind
use Rattle.rsvp_messages.specs.declared.message.Message.{Message}
use Rattle.rsvp_messages.specs.declared.message.Message.TheVariants as message
use Rattle.rsvp_messages.specs.Proper.{WhereThere}
use Rattle.message_codec.specs.declared.seen.Seen.{Seen}
use Rattle.message_codec.specs.Messages.{◌>>=◌, needed, sender_of, ask_of, tear_of, blame_of, path_of, resv_of, path_err_of, resv_err_of, path_tear_of, resv_tear_of, resv_conf_of, message_of}
use Rattle.message_codec.proofs.Standing.{good, good_is}

-- what a step of a reading gave
pub record Gave {A B : Type 0} (f : A → Result B Fault) (r : Result A Fault) (y : B) : Type 0 where
  pub value : A
  pub was : r ≡ good value
  pub rest : f value ≡ good y

pub gave : {A B : Type 0} (f : A → Result B Fault) (r : Result A Fault) (y : B) → (r >>= f) ≡ good y → Gave f r y
gave f (Ok x) y e = record { value = x; was = refl; rest = e }
gave f (Err g) y e = absurd cc

-- what holds of a part where it is there holds of one that was needed
pub there : {A : Type 0} (P : A → Type 0) (n : ℕ) (o : Option A) (x : A) → WhereThere P o → needed n o ≡ good x → P x
there P n (Some y) x p e = subst P (good_is e) p
there P n None x p e = absurd cc

-- what holds of a message of each kind that is made of these parts
pub record HoldsByParts (P : Message → Type 0) (s : Seen) : Type 0 where
  pub path : (x : Session × Bool) (h : Hop) (t : ℕ) (o : Option (Sender × TokenBucket)) → needed number.session s.session ≡ good x
      → needed number.rsvp_hop s.hop ≡ good h → needed number.time_values s.period ≡ good t → sender_of s.template s.tspec ≡ good o
      → P (message.Path (record { session = x.0; police = x.1; hop = h; period = t; sender = o; adspec = s.advert }))
  pub resv : (x : Session × Bool) (h : Hop) (t : ℕ) (k : StyleKind) (f : TokenBucket) (a : Ask) → needed number.session s.session ≡ good x
      → needed number.rsvp_hop s.hop ≡ good h → needed number.time_values s.period ≡ good t → needed number.flowspec s.flow ≡ good f
      → ask_of s.scope s.due s.filters f k ≡ good a
      → P (message.Resv (record { session = x.0; hop = h; period = t; confirm = s.confirm; ask = a }))
  pub path_err : (x : Session × Bool) (e : ErrSpec) → needed number.session s.session ≡ good x → needed number.error_spec s.error ≡ good e
      → P (message.PathErr (record { session = x.0; err = e; sender = s.template }))
  pub resv_err : (x : Session × Bool) (h : Hop) (e : ErrSpec) (k : StyleKind) (b : Blame) → needed number.session s.session ≡ good x
      → needed number.rsvp_hop s.hop ≡ good h → needed number.error_spec s.error ≡ good e → blame_of s.scope s.filters s.flow k ≡ good b
      → P (message.ResvErr (record { session = x.0; hop = h; err = e; blame = b }))
  pub path_tear : (x : Session × Bool) (h : Hop) → needed number.session s.session ≡ good x → needed number.rsvp_hop s.hop ≡ good h
      → P (message.PathTear (record { session = x.0; hop = h; sender = s.template }))
  pub resv_tear : (x : Session × Bool) (h : Hop) (k : StyleKind) (t : Tear) → needed number.session s.session ≡ good x
      → needed number.rsvp_hop s.hop ≡ good h → tear_of s.scope s.filters k ≡ good t
      → P (message.ResvTear (record { session = x.0; hop = h; tear = t }))
  pub resv_conf : (x : Session × Bool) (e : ErrSpec) (k : StyleKind) (f : TokenBucket) (a : Ask) (c : Addr) → needed number.session s.session ≡ good x
      → needed number.error_spec s.error ≡ good e → needed number.flowspec s.flow ≡ good f → ask_of None s.due s.filters f k ≡ good a
      → needed number.resv_confirm s.confirm ≡ good c
      → P (message.ResvConf (record { session = x.0; err = e; confirm = c; ask = a }))

pub by_parts : (P : Message → Type 0) (s : Seen) → HoldsByParts P s → (k : Kind) (v : Message) → message_of k s ≡ good v → P v
unfolding message_of path_of resv_of path_err_of resv_err_of path_tear_of resv_tear_of resv_conf_of
by_parts P s h kind.Path v e =
    let who = gave _ (needed number.session s.session) v e in
    let hop = gave _ (needed number.rsvp_hop s.hop) v who.rest in
    let period = gave _ (needed number.time_values s.period) v hop.rest in
    let sender = gave _ (sender_of s.template s.tspec) v period.rest in
    subst P (good_is sender.rest) (h.path who.value hop.value period.value sender.value who.was hop.was period.was sender.was)
by_parts P s h kind.Resv v e =
    let who = gave _ (needed number.session s.session) v e in
    let hop = gave _ (needed number.rsvp_hop s.hop) v who.rest in
    let period = gave _ (needed number.time_values s.period) v hop.rest in
    let style = gave _ (needed number.style s.style) v period.rest in
    let flow = gave _ (needed number.flowspec s.flow) v style.rest in
    let a = gave _ (ask_of s.scope s.due s.filters flow.value style.value) v flow.rest in
    subst P (good_is a.rest) (h.resv who.value hop.value period.value style.value flow.value a.value who.was hop.was period.was flow.was a.was)
by_parts P s h kind.PathErr v e =
    let who = gave _ (needed number.session s.session) v e in
    let err = gave _ (needed number.error_spec s.error) v who.rest in
    subst P (good_is err.rest) (h.path_err who.value err.value who.was err.was)
by_parts P s h kind.ResvErr v e =
    let who = gave _ (needed number.session s.session) v e in
    let hop = gave _ (needed number.rsvp_hop s.hop) v who.rest in
    let err = gave _ (needed number.error_spec s.error) v hop.rest in
    let style = gave _ (needed number.style s.style) v err.rest in
    let blame = gave _ (blame_of s.scope s.filters s.flow style.value) v style.rest in
    subst P (good_is blame.rest) (h.resv_err who.value hop.value err.value style.value blame.value who.was hop.was err.was blame.was)
by_parts P s h kind.PathTear v e =
    let who = gave _ (needed number.session s.session) v e in
    let hop = gave _ (needed number.rsvp_hop s.hop) v who.rest in
    subst P (good_is hop.rest) (h.path_tear who.value hop.value who.was hop.was)
by_parts P s h kind.ResvTear v e =
    let who = gave _ (needed number.session s.session) v e in
    let hop = gave _ (needed number.rsvp_hop s.hop) v who.rest in
    let style = gave _ (needed number.style s.style) v hop.rest in
    let t = gave _ (tear_of s.scope s.filters style.value) v style.rest in
    subst P (good_is t.rest) (h.resv_tear who.value hop.value style.value t.value who.was hop.was t.was)
by_parts P s h kind.ResvConf v e =
    let who = gave _ (needed number.session s.session) v e in
    let err = gave _ (needed number.error_spec s.error) v who.rest in
    let style = gave _ (needed number.style s.style) v err.rest in
    let flow = gave _ (needed number.flowspec s.flow) v style.rest in
    let a = gave _ (ask_of None s.due s.filters flow.value style.value) v flow.rest in
    let confirm = gave _ (needed number.resv_confirm s.confirm) v a.rest in
    subst P (good_is confirm.rest)
    (h.resv_conf who.value err.value style.value flow.value a.value confirm.value who.was err.was flow.was a.was confirm.was)
