-- The values that are read back from their texts.
use Rattle.std.specs.Prelude.{◌≡◌, ◌≢◌, ℕ, ◌<◌, ◌≤◌, ◌^◌, true, false, List, [], ◌∷◌, ◌++◌, length, codes, Option, None, IsSome, IfSome}
use Rattle.std.specs.List.{AllByRecursion}
use Rattle.rtc_wire_text.specs.Cuts.{Lacks}
use Rattle.rtc_wire_text.specs.Tokens.{is_short_token, is_token}
use Rattle.rtc_sdp_values.specs.declared.extension.Extension.{Extension}
use Rattle.rtc_sdp_values.specs.declared.payload_row.PayloadRow.{PayloadRow}
use Rattle.rtc_sdp_values.specs.declared.simulcast.Simulcast.{Simulcast}
use Rattle.rtc_sdp_values.specs.declared.simulcast_layer.SimulcastLayer.{SimulcastLayer}
use Rattle.rtc_sdp_values.specs.declared.ssrc.Ssrc.{Ssrc}
use Rattle.rtc_sdp_attributes.specs.PlainValues.{IsPlainMsid}
use Rattle.rtc_sdp_attributes.specs.PlainValues.{IsPlainPair}
use Rattle.rtc_sdp_attributes.specs.AttributeTexts.{rids_in}
use Rattle.rtc_sdp_attributes.specs.PlainValues.{IsPlainList}
use Rattle.rtc_sdp_reader.specs.PlainPayloads.{IsPlainPayload, AreApart}
use Rattle.rtc_sdp_reader.specs.PlainSources.{numbers_of}
use Rattle.rtc_sdp_attributes.specs.PlainValues.{IsPlainCandidate}
use Rattle.rtc_sdp_attributes.specs.PlainValues.{IsPlainFingerprint}
use Rattle.rtc_sdp_attributes.specs.Forms.{is_word_up_to, is_spaceless}
use Rattle.rtc_sdp_values.specs.declared.candidate.Candidate.{Candidate}
use Rattle.rtc_sdp_values.specs.declared.candidate_kind.CandidateKind.TheVariants.{Host}
use Rattle.rtc_sdp_values.specs.declared.direction.Direction.TheVariants.{SendRecv}
use Rattle.rtc_sdp_values.specs.declared.fingerprint.Fingerprint.{Fingerprint}
use Rattle.rtc_sdp_values.specs.declared.ice_creds.IceCreds.{IceCreds}
use Rattle.rtc_sdp_values.specs.declared.line_kind.LineKind.{LineKind}
use Rattle.rtc_sdp_values.specs.declared.line_kind.LineKind.TheVariants.{Audio, Video, Application, Unknown}
use Rattle.rtc_sdp_values.specs.declared.media_line.MediaLine.{MediaLine}
use Rattle.rtc_sdp_values.specs.declared.sdp.Sdp.{Sdp}
use Rattle.rtc_wire.specs.declared.protocol.Protocol.TheVariants.{Udp}
use Rattle.rtc_sdp_writer.specs.AsRead.{AreSourcesApart}
use Rattle.rtc_sdp_writer.specs.SessionRows.{enabled_mids}

-- ---- texts and numbers have the form that is read; none holds a line's end
pub record IsPlainCreds (creds : IceCreds) : Type 0 where
  pub ufrag : is_word_up_to 255 creds.ufrag ≡ true
  pub ufrag_line : Lacks 10 creds.ufrag
  pub pass : is_word_up_to 256 creds.pass ≡ true
  pub pass_line : Lacks 10 creds.pass

pub record IsPlainHash (fingerprint : Fingerprint) : Type 0 where
  pub form : IsPlainFingerprint fingerprint
  pub name : fingerprint.hash_func ≡ codes "sha-256"

pub record IsHost (candidate : Candidate) : Type 0 where
  pub form : IsPlainCandidate candidate
  pub kind : candidate.kind ≡ Host
  pub proto : candidate.proto ≡ Udp

pub record IsPlainChunk (chunk : List ℕ) : Type 0 where
  pub form : is_spaceless chunk ≡ true
  pub line : Lacks 10 chunk

pub record IsPlainRow (row : PayloadRow) : Type 0 where
  pub numbers : IsPlainPayload row
  pub codec : is_token row.codec ≡ true
  pub clock : row.clock ≤ 4294967295
  pub channels : row.channels ≤ 255
  pub fmtp : Lacks 10 row.fmtp

abbrev pub IsPlainExtension : ℕ × Extension → Type 0
IsPlainExtension row = (0 < row.0) × (row.0 ≤ 255)

abbrev pub IsPairOfLine : List ℕ × List ℕ → Type 0
IsPairOfLine pair = IsPlainPair pair × Lacks 10 pair.0 × Lacks 10 pair.1

abbrev pub IsPlainLayer : SimulcastLayer → Type 0
IsPlainLayer layer = AllByRecursion IsPairOfLine layer.attributes

-- at least one layer, each with a name of its own in its direction that does not begin with `~`
pub record IsPlainSimulcast (simulcast : Simulcast) : Type 0 where
  pub send : IsPlainList (rids_in simulcast.send)
  pub recv : IsPlainList (rids_in simulcast.recv)
  pub some : rids_in simulcast.send ++ rids_in simulcast.recv ≢ []
  pub sent : AllByRecursion IsPlainLayer simulcast.send
  pub received : AllByRecursion IsPlainLayer simulcast.recv

pub record IsPlainName (cname : List ℕ) : Type 0 where
  pub some : 0 < length cname
  pub line : Lacks 10 cname

-- ---- lines
-- the line of the data channels is live in both directions, and has nothing of media
pub record IsChannelLine (line : MediaLine) : Type 0 where
  pub dir : line.dir ≡ SendRecv
  pub live : line.disabled ≡ false
  pub limit : IsSome line.max_message_size
  pub payloads : line.payloads ≡ []
  pub exts : line.exts ≡ []
  pub simulcast : line.simulcast ≡ None
  pub msid : line.msid ≡ None
  pub cname : line.cname ≡ None
  pub ssrcs : line.ssrcs ≡ []

-- a line without a port shows no stream and no SSRC
pub record IsQuiet (line : MediaLine) : Type 0 where
  pub msid : line.msid ≡ None
  pub cname : line.cname ≡ None
  pub ssrcs : line.ssrcs ≡ []

-- a line has a name for its SSRCs exactly if it has SSRCs, and then a stream too
abbrev pub AreNamed : List (Ssrc × Option Ssrc) → MediaLine → Type 0
AreNamed [] line = line.cname ≡ None
AreNamed (source ∷ rest) line = IsSome line.cname × IsSome line.msid

pub record IsMediumLine (line : MediaLine) : Type 0 where
  pub limit : line.max_message_size ≡ None
  pub chunk : line.sctp_init ≡ None
  pub named : AreNamed line.ssrcs line
  pub quiet : line.disabled ≡ true → IsQuiet line

-- what a line of a kind has; an unknown kind is not plain
abbrev pub SuitsKind : LineKind → MediaLine → Type 0
SuitsKind Audio line = IsMediumLine line
SuitsKind Video line = IsMediumLine line
SuitsKind Application line = IsChannelLine line
SuitsKind Unknown line = ⊥

pub record IsLegibleLine (line : MediaLine) : Type 0 where
  pub kind : SuitsKind line.kind line
  pub mid : is_short_token line.mid ≡ true
  pub candidates : AllByRecursion IsHost line.candidates
  pub creds : IsSome line.creds
  pub creds_form : IfSome line.creds IsPlainCreds
  pub fingerprint : IsSome line.fingerprint
  pub fingerprint_form : IfSome line.fingerprint IsPlainHash
  pub setup : IsSome line.setup
  pub payloads : AllByRecursion IsPlainRow line.payloads
  pub payloads_apart : AreApart line.payloads
  pub exts : AllByRecursion IsPlainExtension line.exts
  pub simulcast : IfSome line.simulcast IsPlainSimulcast
  pub msid : IfSome line.msid IsPlainMsid
  pub cname : IfSome line.cname IsPlainName
  pub ssrcs : AllByRecursion (λ ssrc. ssrc ≤ 4294967295) (numbers_of line.ssrcs)
  pub max_message_size : IfSome line.max_message_size (λ size. size < 2 ^ 64)
  pub sctp_init : IfSome line.sctp_init IsPlainChunk

-- candidates are on the first line alone
abbrev pub AreBare : List MediaLine → Type 0
AreBare lines = AllByRecursion (λ line. line.candidates ≡ []) lines

abbrev pub StandFirst : List MediaLine → Type 0
StandFirst [] = Unit {0}
StandFirst (line ∷ rest) = AreBare rest

-- what is written of a value is read again; its SSRCs may be repeated
pub record IsLegible (sdp : Sdp) : Type 0 where
  pub id : sdp.id < 2 ^ 64
  pub groups : sdp.groups ≡ enabled_mids sdp.lines ∷ []
  pub creds : sdp.creds ≡ None
  pub fingerprint : sdp.fingerprint ≡ None
  pub setup : sdp.setup ≡ None
  pub lines : AllByRecursion IsLegibleLine sdp.lines
  pub candidates : StandFirst sdp.lines

-- and as it is, if no SSRC of a line is repeated
pub record IsPlain (sdp : Sdp) : Type 0 where
  pub legible : IsLegible sdp
  pub apart : AreSourcesApart sdp.lines
