-- Peers whose session descriptions are read back as they were written.
use Rattle.std.specs.Prelude.{◌≡◌, ◌⊎◌, ◌+◌, ◌<◌, ◌≤◌, ◌^◌, ◌==◌, ℕ, Bool, true}
use Rattle.std.specs.Prelude.{false, if◌then◌else◌, List, [], ◌∷◌, length, codes, Option, IfSome, IsSome}
use Rattle.std.specs.List.{AllByRecursion}
use Rattle.std.specs.Str.{bytes_eq}
use Rattle.rtc_wire_text.specs.Cuts.{Lacks}
use Rattle.rtc_wire_text.specs.Once.{IsApart}
use Rattle.rtc_wire_text.specs.Tokens.{is_token, is_short_token}
use Rattle.rtc_wire.specs.declared.protocol.Protocol.TheVariants.{Udp}
use Rattle.rtc_sdp_values.specs.LineRow.{row_mid}
use Rattle.rtc_sdp_values.specs.declared.candidate.Candidate.{Candidate}
use Rattle.rtc_sdp_values.specs.declared.candidate_kind.CandidateKind.TheVariants.{Host}
use Rattle.rtc_sdp_values.specs.declared.fingerprint.Fingerprint.{Fingerprint}
use Rattle.rtc_sdp_values.specs.declared.ice_creds.IceCreds.{IceCreds}
use Rattle.rtc_sdp_values.specs.declared.line_row.LineRow.{LineRow}
use Rattle.rtc_sdp_values.specs.declared.media_line.MediaLine.{MediaLine}
use Rattle.rtc_sdp_values.specs.declared.msid.Msid.{Msid}
use Rattle.rtc_sdp_values.specs.declared.simulcast.Simulcast.{Simulcast}
use Rattle.rtc_sdp_values.specs.declared.simulcast_layer.SimulcastLayer.{SimulcastLayer}
use Rattle.rtc_sdp_values.specs.declared.ssrc.Ssrc.{Ssrc}
use Rattle.rtc_sdp_codecs.specs.FormedCodecs.{AreFormedRows, AreFormedExtensions, AreDistinctNumbers}
use Rattle.rtc_parts.specs.declared.media_update.MediaUpdate.{MediaUpdate}
use Rattle.rtc_change.specs.declared.add_media.AddMedia.{AddMedia}
use Rattle.rtc_change.specs.declared.change.Change.{Change}
use Rattle.rtc_change.specs.PendingOffer.{added_mids, restart_of}
use Rattle.rtc_peer_core.specs.declared.line_media.LineMedia.{LineMedia}
use Rattle.rtc_peer_core.specs.Formats.{AreFormedFormats}
use Rattle.rtc_peer_core.specs.LineUpdates.{media_of_change}
use Rattle.rtc_peer_core.specs.MadeSdp.{media_of_update}
use Rattle.rtc_peer_core.specs.Stance.{Stance}

-- a text of 1 byte to so many, without a space and without a line feed
pub record IsSdpWord (most : ℕ) (text : List ℕ) : Type 0 where
  pub some : 0 < length text
  pub size : length text ≤ most
  pub space : Lacks 32 text
  pub line : Lacks 10 text

-- Credentials that a session description can carry: a user fragment of 1 to 255 bytes and a password of 1 to 256, each one word in its
-- line. The standard's are 4 to 256 and 22 to 256 letters, digits, `+` and `/` (RFC 8839, section 5.4).
pub record AreSdpCreds (creds : IceCreds) : Type 0 where
  pub ufrag : IsSdpWord 255 creds.ufrag
  pub pass : IsSdpWord 256 creds.pass

-- a fingerprint by SHA-256, which has 32 bytes
pub record IsSha256 (fingerprint : Fingerprint) : Type 0 where
  pub name : fingerprint.hash_func ≡ codes "sha-256"
  pub size : length fingerprint.bytes ≡ 32
  pub bytes : AllByRecursion (λ byte. byte < 256) fingerprint.bytes

-- the mid of each row is a short token
abbrev pub HaveTokens : List LineRow → Type 0
HaveTokens rows = AllByRecursion (λ row. is_short_token (row_mid row) ≡ true) rows

-- the mid of each line that is staged is a short token
abbrev pub AddTokens : List Change → Type 0
AddTokens changes = AllByRecursion (λ mid. is_short_token mid ≡ true) (added_mids changes)

-- a host candidate over UDP at an address of four bytes, with a foundation that can be written (RFC 8839, section 5.1)
pub record IsHostCandidate (candidate : Candidate) : Type 0 where
  pub foundation : is_token candidate.foundation ≡ true
  pub component : candidate.component ≤ 65535
  pub proto : candidate.proto ≡ Udp
  pub priority : candidate.priority ≤ 4294967295
  pub four : length candidate.addr.ip ≡ 4
  pub bytes : AllByRecursion (λ byte. byte ≤ 255) candidate.addr.ip
  pub port : candidate.addr.port ≤ 65535
  pub kind : candidate.kind ≡ Host

-- ---- what lines carry
-- a name and a value of a layer that are in its line (RFC 8851, section 10); payload types are none of them, since none are carried
pub record IsFormedPair (pair : List ℕ × List ℕ) : Type 0 where
  pub kept : bytes_eq pair.0 (codes "pt") ≡ false
  pub key_line : Lacks 10 pair.0
  pub key_semicolon : Lacks 59 pair.0
  pub key_equals : Lacks 61 pair.0
  pub value_line : Lacks 10 pair.1
  pub value_semicolon : Lacks 59 pair.1
  pub value_equals : Lacks 61 pair.1

-- a name that is in a list of layers: a short token that no `~` begins (RFC 8853, section 5.1)
abbrev pub is_layer_name : List ℕ → Bool
is_layer_name [] = false
is_layer_name (byte ∷ bytes) = if byte == 126 then false else is_short_token (byte ∷ bytes)

pub record IsFormedLayer (layer : SimulcastLayer) : Type 0 where
  pub name : is_layer_name layer.rid ≡ true
  pub pairs : AllByRecursion IsFormedPair layer.attributes

-- two layers have one name
abbrev pub shares_rid : SimulcastLayer → SimulcastLayer → Bool
shares_rid a b = bytes_eq a.rid b.rid

-- layers of one direction, each with a name of its own
pub record AreFormedLayers (layers : List SimulcastLayer) : Type 0 where
  pub each : AllByRecursion IsFormedLayer layers
  pub apart : IsApart shares_rid layers

-- at least one layer
pub record IsFormedSimulcast (simulcast : Simulcast) : Type 0 where
  pub some : 0 < length simulcast.send + length simulcast.recv
  pub send : AreFormedLayers simulcast.send
  pub recv : AreFormedLayers simulcast.recv

-- names of a stream and of its track that are tokens (RFC 8830, section 2)
pub record IsFormedMsid (msid : Msid) : Type 0 where
  pub stream : is_token msid.stream_id ≡ true
  pub track : is_token msid.track_id ≡ true

-- an SSRC and its RTX SSRC, with numbers of 32 bits (RFC 3550, section 5.1)
pub record IsFormedSource (source : Ssrc × Option Ssrc) : Type 0 where
  pub own : source.0.0 < 2 ^ 32
  pub rtx : IfSome source.1 (λ ssrc. ssrc.0 < 2 ^ 32)

-- what a line carries whole; SSRCs have a name and a stream, and may be repeated
pub record IsFormedMedia (media : LineMedia) : Type 0 where
  pub payloads : AreFormedRows media.payloads
  pub exts : AreFormedExtensions media.exts
  pub simulcast : IfSome media.simulcast IsFormedSimulcast
  pub msid : IfSome media.msid IsFormedMsid
  pub cname : IfSome media.cname (λ name. is_token name ≡ true)
  pub named : media.ssrcs ≡ [] ⊎ (IsSome media.msid × IsSome media.cname)
  pub ssrcs : AllByRecursion IsFormedSource media.ssrcs

-- what a media part is given of a line: it has a stream and a name for its SSRCs
pub record IsFormedUpdate (update : MediaUpdate) : Type 0 where
  pub carried : IsFormedMedia (media_of_update update)
  pub has_msid : IsSome update.msid
  pub has_cname : IsSome update.cname

-- what is staged with a line
pub record IsFormedAdded (media : AddMedia) : Type 0 where
  pub simulcast : IfSome media.simulcast IsFormedSimulcast
  pub msid : IsFormedMsid media.msid
  pub cname : is_token media.cname ≡ true
  pub ssrcs : AllByRecursion IsFormedSource media.ssrcs

-- a restart that is staged has such credentials, and a line that is staged carries such media
pub record IsFormedChange (change : Change) : Type 0 where
  pub restart : IfSome (restart_of change) (λ restart. AreSdpCreds restart.0)
  pub media : IfSome (media_of_change change) IsFormedAdded

abbrev pub AreFormedChanges : List Change → Type 0
AreFormedChanges changes = AllByRecursion IsFormedChange changes

-- what is taken of a line of the other side: payload types that do not repeat, extensions by their numbers, and layers
pub record IsTakenLine (line : MediaLine) : Type 0 where
  pub payloads : AreDistinctNumbers line.payloads
  pub exts : AreFormedExtensions line.exts
  pub simulcast : IfSome line.simulcast IsFormedSimulcast

-- a peer whose session number, credentials, fingerprint, candidates, mids, longest message, codecs, header extensions and lines are such
pub record IsFormed (s : Stance) : Type 0 where
  pub session : s.session < 2 ^ 64
  pub creds : AreSdpCreds s.ice.local
  pub candidates : AllByRecursion IsHostCandidate s.ice.candidates
  pub fingerprint : IsSha256 s.own_fingerprint
  pub rows : HaveTokens s.lines
  pub staged : AddTokens s.staged
  pub size : s.max_message_size < 2 ^ 32
  pub changes : AreFormedChanges s.staged
  pub formats : AreFormedFormats s.formats
  pub media : (mid : List ℕ) → IfSome (s.line mid) IsFormedUpdate
