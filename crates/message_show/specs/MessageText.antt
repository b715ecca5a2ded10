-- The line of a message: its kind, SESSION, and what its objects say.
use Rattle.std.specs.Prelude.{ℕ, List, ◌++◌, codes}
use Rattle.rsvp_base.specs.TokenBucket.{TokenBucket}
use Rattle.rsvp_base.specs.declared.session.Sender.{Sender}
use Rattle.rsvp_messages.specs.declared.message.Message.{Message}
use Rattle.rsvp_messages.specs.declared.message.Message.TheVariants as message
use Rattle.rsvp_messages.specs.declared.message.PathErrMsg.{PathErrMsg}
use Rattle.rsvp_messages.specs.declared.message.PathMsg.{PathMsg}
use Rattle.rsvp_messages.specs.declared.message.PathTearMsg.{PathTearMsg}
use Rattle.rsvp_messages.specs.declared.message.ResvConfMsg.{ResvConfMsg}
use Rattle.rsvp_messages.specs.declared.message.ResvErrMsg.{ResvErrMsg}
use Rattle.rsvp_messages.specs.declared.message.ResvMsg.{ResvMsg}
use Rattle.rsvp_messages.specs.declared.message.ResvTearMsg.{ResvTearMsg}
use Rattle.value_texts.specs.Texts.{sender_text, session_text}
use Rattle.value_texts.specs.AdspecText.{adspec_words}
use Rattle.rsvp_objects.specs.declared.adspec.Adspec.{Adspec}
use Rattle.message_show.specs.PartTexts.{where_set, where_there, hop_text, period_text, confirm_text, error_text, offer_text, ask_text, tear_text, blame_text}

-- sender SENDER FLOW
unfoldable pub path_sender_text : Sender × TokenBucket → List ℕ
path_sender_text e = codes " sender" ++ offer_text e

-- sender SENDER
unfoldable pub only_sender_text : Sender → List ℕ
only_sender_text s = codes " sender " ++ sender_text s

-- adspec, and its words
unfoldable pub adspec_text : Adspec → List ℕ
adspec_text a = codes " adspec" ++ adspec_words a

unfoldable pub path_text : PathMsg → List ℕ
path_text m = codes "Path " ++ session_text m.session ++ where_set m.police (codes " police") ++ hop_text m.hop ++ period_text m.period
    ++ where_there path_sender_text m.sender ++ where_there adspec_text m.adspec

unfoldable pub resv_text : ResvMsg → List ℕ
resv_text m = codes "Resv " ++ session_text m.session ++ hop_text m.hop ++ period_text m.period ++ where_there confirm_text m.confirm ++ ask_text m.ask

unfoldable pub path_err_text : PathErrMsg → List ℕ
path_err_text m = codes "PathErr " ++ session_text m.session ++ error_text m.err ++ where_there only_sender_text m.sender

unfoldable pub resv_err_text : ResvErrMsg → List ℕ
resv_err_text m = codes "ResvErr " ++ session_text m.session ++ hop_text m.hop ++ error_text m.err ++ blame_text m.blame

unfoldable pub path_tear_text : PathTearMsg → List ℕ
path_tear_text m = codes "PathTear " ++ session_text m.session ++ hop_text m.hop ++ where_there only_sender_text m.sender

unfoldable pub resv_tear_text : ResvTearMsg → List ℕ
resv_tear_text m = codes "ResvTear " ++ session_text m.session ++ hop_text m.hop ++ tear_text m.tear

unfoldable pub resv_conf_text : ResvConfMsg → List ℕ
resv_conf_text m = codes "ResvConf " ++ session_text m.session ++ error_text m.err ++ confirm_text m.confirm ++ ask_text m.ask

-- the words of a message
abbrev pub words_text : Message → List ℕ
words_text (message.Path m) = path_text m
words_text (message.Resv m) = resv_text m
words_text (message.PathErr m) = path_err_text m
words_text (message.ResvErr m) = resv_err_text m
words_text (message.PathTear m) = path_tear_text m
words_text (message.ResvTear m) = resv_tear_text m
words_text (message.ResvConf m) = resv_conf_text m

-- its line
unfoldable pub message_text : Message → List ℕ
message_text m = words_text m ++ codes "\n"
