-- What a side judges session descriptions by, if the past says it.
use Rattle.std.specs.Prelude.{ℕ, Bool, true, false, not, ◌&&◌, ◌||◌, List, [], ◌∷◌, if◌then◌else◌}
use Rattle.std.specs.Prelude.{Option, Some, None, is_some, option_map, slice_get}
use Rattle.std.specs.Option.{option_or}
use Rattle.rtc_sdp_values.specs.Sdp.{creds_of, sdp_sctp_init}
use Rattle.rtc_sdp_values.specs.declared.ice_creds.IceCreds.{IceCreds}
use Rattle.rtc_sdp_values.specs.declared.sdp.Sdp.{Sdp}
use Rattle.rtc_sctp_values.specs.InitChunk.{chunk_text, chunk_of_text}
use Rattle.rtc_change.specs.Held.{Held}
use Rattle.rtc_peer_core.specs.Formed.{IsFormed}
use Rattle.rtc_peer_core.specs.Stance.{Stance}
use Rattle.rtc_run_history.specs.declared.side.Side.{Side}
use Rattle.rtc_run_history.specs.declared.step.Step.{Step}
use Rattle.rtc_run_history.specs.declared.step.Step.TheVariants.{Negotiate, AcceptOffer, AcceptAnswer, Time, Datagram, Poll, Drain}
use Rattle.rtc_run_history.specs.declared.step.Step.TheVariants.{Write, CloseChannel, Close, Rollback, ForeignOffer, ForeignAnswer, Raw}
use Rattle.rtc_run_history.specs.declared.outcome.Outcome.{Outcome}
use Rattle.rtc_run_history.specs.declared.outcome.Outcome.TheVariants.{Negotiated, Answered, Finished, Done, Wrote, Polled, Refused}
use Rattle.rtc_run_history.specs.declared.outcome.Outcome.TheVariants.{NoSuch, Alloc}
use Rattle.rtc_run_history.specs.Memory.{error_lacks, is_fault}
use Rattle.rtc_run_history.specs.Signalled.{foreign, sdp_read}
use Rattle.rtc_run_history.specs.Sides.{same_side}
use Rattle.rtc_run_history.specs.Answers.{has_app_row}
use Rattle.rtc_run_history.specs.Past.{Entry, MadeSdp, before, sdps, remote_sdp}

-- what negotiation reads of both sides
abbrev pub Stances : Type 0
Stances = Side → Stance

-- both sides make session descriptions that are read back
abbrev pub AreFormed : Stances → Type 0
AreFormed sides = (at : Side) → IsFormed (sides at)

-- the session description that a step had a side accept, if any
abbrev pub accepted_by : {E : Type 0} → Side → Step → Outcome E → List (Entry E) → Option Sdp
accepted_by at (AcceptOffer side k) (Answered n) past = if same_side side at then sdp_read (remote_sdp true at k past) else None
accepted_by at (AcceptAnswer side t a) Finished past = if same_side side at then sdp_read (remote_sdp false at a past) else None
accepted_by at (ForeignOffer side text) (Answered n) past = if same_side side at then sdp_read (foreign text) else None
accepted_by at (ForeignAnswer side t text) Finished past = if same_side side at then sdp_read (foreign text) else None
accepted_by at step outcome past = None

-- the last one that a side accepted
abbrev pub last_accepted : {E : Type 0} → Side → List (Entry E) → Option Sdp
last_accepted at [] = None
last_accepted at (entry ∷ past) = option_or (accepted_by at entry.step entry.outcome past) (last_accepted at past)

-- whether an outcome reports that a peer's call was broken off: a part failed, or memory ran out
abbrev pub is_broken_off : {E : Type 0} → Outcome E → Bool
is_broken_off (Negotiated answers made) = false
is_broken_off (Answered k) = false
is_broken_off Finished = false
is_broken_off Done = false
is_broken_off (Wrote taken) = false
is_broken_off (Polled outputs end) = false
is_broken_off (Refused error) = error_lacks error || is_fault error
is_broken_off NoSuch = false
is_broken_off Alloc = false

-- whether a side's acceptance was broken off
abbrev pub breaks_off : {E : Type 0} → Side → Step → Outcome E → Bool
breaks_off at (Negotiate side ops apply) outcome = false
breaks_off at (AcceptOffer side k) outcome = same_side side at && is_broken_off outcome
breaks_off at (AcceptAnswer side t a) outcome = same_side side at && is_broken_off outcome
breaks_off at (Time side now) outcome = false
breaks_off at (Datagram side packet now) outcome = false
breaks_off at (Poll side) outcome = false
breaks_off at (Drain side) outcome = false
breaks_off at (Write side channel binary bytes) outcome = false
breaks_off at (CloseChannel side channel) outcome = false
breaks_off at (Close side) outcome = false
breaks_off at (Rollback side token) outcome = false
breaks_off at (ForeignOffer side text) outcome = same_side side at && is_broken_off outcome
breaks_off at (ForeignAnswer side t text) outcome = same_side side at && is_broken_off outcome
breaks_off at (Raw side bytes now) outcome = false

-- no acceptance of a side was broken off, so that the past says what the side knows of the other one
abbrev pub is_firm : {E : Type 0} → Side → List (Entry E) → Bool
is_firm at [] = true
is_firm at (entry ∷ past) = not (breaks_off at entry.step entry.outcome) && is_firm at past

abbrev pub creds_told : Option Sdp → Option IceCreds
creds_told None = None
creds_told (Some sdp) = creds_of sdp

-- ---- the start of the association (draft-hancke-tsvwg-snap)
-- whether a session description carries a SNAP INIT chunk
abbrev pub tells_init : Option MadeSdp → Bool
tells_init None = false
tells_init (Some said) = is_some (sdp_sctp_init said.sdp)

-- whether that of a number does (draft-hancke-tsvwg-snap)
abbrev pub init_told_by : {E : Type 0} → ℕ → List (Entry E) → Bool
init_told_by t past = tells_init (slice_get (sdps past) t)

-- whether an entry had a side accept a session description, after which it has an m-line of data channels
abbrev pub leaves_app : {E : Type 0} → Side → Entry E → List (Entry E) → Bool
leaves_app at entry past = is_some (accepted_by at entry.step entry.outcome past) && has_app_row (before at (entry ∷ past))

-- the first such session description starts the association of a side
abbrev pub is_inited : {E : Type 0} → Side → List (Entry E) → Bool
is_inited at [] = false
is_inited at (entry ∷ past) = leaves_app at entry past || is_inited at past

-- the text of a chunk that is carried in base64 with padding; a text of bytes is then the only one of its chunk
abbrev pub init_said : Option (List ℕ) → Option (List ℕ)
init_said None = None
init_said (Some text) = option_map chunk_text (chunk_of_text text)

-- the SNAP INIT chunk of a session description, if it may carry one
abbrev pub init_in : (may : Bool) → Option Sdp → Option (List ℕ)
init_in may None = None
init_in may (Some sdp) = if may then init_said (sdp_sctp_init sdp) else None

-- the one of a step: an answer may carry one if the offer of its token carried one
abbrev pub init_brought : {E : Type 0} → Side → Step → List (Entry E) → Option (List ℕ)
init_brought at (Negotiate side ops apply) past = None
init_brought at (AcceptOffer side k) past = init_in true (sdp_read (remote_sdp true at k past))
init_brought at (AcceptAnswer side t a) past = init_in (init_told_by t past) (sdp_read (remote_sdp false at a past))
init_brought at (Time side now) past = None
init_brought at (Datagram side packet now) past = None
init_brought at (Poll side) past = None
init_brought at (Drain side) past = None
init_brought at (Write side channel binary bytes) past = None
init_brought at (CloseChannel side channel) past = None
init_brought at (Close side) past = None
init_brought at (Rollback side token) past = None
init_brought at (ForeignOffer side text) past = init_in true (sdp_read (foreign text))
init_brought at (ForeignAnswer side t text) past = init_in (init_told_by t past) (sdp_read (foreign text))
init_brought at (Raw side bytes now) past = None

-- The other side's chunk as text that a side keeps: the one of the session description that started the association.
abbrev pub init_kept : {E : Type 0} → Side → List (Entry E) → Option (List ℕ)
init_kept at [] = None
init_kept at (entry ∷ past) =
    if leaves_app at entry past && not (is_inited at past) then init_brought at entry.step past else init_kept at past

-- What a side judges by, given the sides of the fresh pair and what the side holds. Its ICE agent is lite as in the fresh pair. It knows
-- the credentials of the last session description that it accepted, and a fingerprint exactly if it accepted one. Its association is
-- started by the first one after which it has an m-line of data channels, and keeps the chunk that this one carried.
abbrev pub view_in : {E : Type 0} → Stances → Side → List (Entry E) → Held → Held
view_in fresh at past held = record {
  lines = before at past;
  lite = (fresh at).ice.lite;
  remote_creds = if is_firm at past then creds_told (last_accepted at past) else held.remote_creds;
  has_fingerprint = if is_firm at past then is_some (last_accepted at past) else held.has_fingerprint;
  sctp_inited = is_inited at past;
  sctp_kept = init_kept at past;
}
