-- The m-lines of formed rows are legible, each by itself.
use Rattle.std.proofs.Common.{◌≡◌, ◌⊎◌, inl, inr, ◌<◌, ◌^◌, ℕ, Bool, true, false, ltb, List, [], ◌∷◌, map, length, Option, Some, refl, ap, arith}
use Rattle.std.specs.Prelude.{IfSome, IsSome}
use Rattle.std.specs.List.{AllByRecursion}
use Rattle.std.proofs.lemmas.Bool.{le-leb, lt-ltb}
use Rattle.rtc_wire_text.specs.Cuts.{Lacks}
use Rattle.rtc_wire_text.specs.Tokens.{is_token, is_short_token}
use Rattle.rtc_sdp_values.specs.LineRow.{row_mid}
use Rattle.rtc_sdp_values.specs.declared.direction.Direction.{Direction}
use Rattle.rtc_sdp_values.specs.declared.direction.Direction.TheVariants.{SendRecv}
use Rattle.rtc_sdp_values.specs.declared.fingerprint.Fingerprint.{Fingerprint}
use Rattle.rtc_sdp_values.specs.declared.ice_creds.IceCreds.{IceCreds}
use Rattle.rtc_sdp_values.specs.declared.line_kind.LineKind.{LineKind}
use Rattle.rtc_sdp_values.specs.declared.line_kind.LineKind.TheVariants.{Audio as AudioLine, Video as VideoLine, Application}
use Rattle.rtc_sdp_values.specs.declared.line_row.LineRow.{LineRow}
use Rattle.rtc_sdp_values.specs.declared.line_row.LineRow.TheVariants.{Media, App}
use Rattle.rtc_sdp_values.specs.MediaLine.{bare_line}
use Rattle.rtc_sdp_values.specs.declared.media_line.MediaLine.{MediaLine}
use Rattle.rtc_sdp_values.specs.declared.media_kind.MediaKind.TheVariants.{Audio, Video}
use Rattle.rtc_sdp_values.specs.declared.msid.Msid.{Msid}
use Rattle.rtc_sdp_values.specs.declared.candidate.Candidate.{Candidate}
use Rattle.rtc_sdp_values.specs.declared.ssrc.Ssrc.{Ssrc}
use Rattle.rtc_sdp_attributes.specs.Forms.{is_spaceless, is_word_up_to}
use Rattle.rtc_sdp_writer.specs.Plain.{IsPlainCreds, IsPlainHash, IsHost, IsLegibleLine, IsMediumLine, AreNamed, SuitsKind}
use Rattle.rtc_sdp_writer.specs.SessionRows.{enabled_mids as named_mids}
use Rattle.rtc_peer_core.specs.declared.sdp_head.SdpHead.{SdpHead}
use Rattle.rtc_peer_core.proofs.FormedHeads.{IsFormedHead}
use Rattle.rtc_peer_core.specs.Formed.{IsSdpWord, AreSdpCreds, IsSha256, IsHostCandidate, HaveTokens, IsFormedMsid, IsFormedSource, IsFormedMedia}
use Rattle.rtc_peer_core.specs.declared.line_media.LineMedia.{LineMedia}
use Rattle.rtc_peer_core.specs.declared.told_row.ToldRow.{ToldRow}
use Rattle.rtc_peer_core.specs.MadeSdp.{shown_msid, shown_ssrcs, name_of_sources, row_line, told_line, row_told, live_mids}
use Rattle.rtc_peer_core.proofs.ToldRows.{IsToldFormed}
use Rattle.rtc_run_laws.proofs.ChunkTexts.{init_plain}
use Rattle.rtc_run_laws.proofs.CarriedLines.{rows_plain, rows_apart, extensions_plain, layers_of_line, msid_of_line, name_of_line, sources_of_line}

-- ---- credentials and fingerprints

lacks_spaceless : (text : List ℕ) → Lacks 32 text → is_spaceless text ≡ true
lacks_spaceless [] lacks = refl
lacks_spaceless (byte ∷ text) lacks = rw lacks.0 (lacks_spaceless text lacks.1)

word_form : (most : ℕ) (text : List ℕ) → IsSdpWord most text → is_word_up_to most text ≡ true
word_form most text word =
    let some : ltb 0 (length text) ≡ true = lt-ltb 0 (length text) word.some in
    rw (some, le-leb (length text) most word.size) (lacks_spaceless text word.space)

creds_plain : (creds : IceCreds) → AreSdpCreds creds → IsPlainCreds creds
creds_plain creds words = record {
  ufrag = word_form 255 creds.ufrag words.ufrag;
  ufrag_line = words.ufrag.line;
  pass = word_form 256 creds.pass words.pass;
  pass_line = words.pass.line;
}

hash_plain : (fingerprint : Fingerprint) → IsSha256 fingerprint → IsPlainHash fingerprint
hash_plain fingerprint sha = record {
  form = record {
    token = rw sha.name refl;
    small = rw sha.name refl;
    some = λ none. let e : length fingerprint.bytes ≡ 0 = ap length none in omega (arith, e, sha.size);
    bytes = sha.bytes;
  };
  name = sha.name;
}

host_plain : (candidate : Candidate) → IsHostCandidate candidate → IsHost candidate
host_plain candidate host = record {
  form = record {
    foundation = host.foundation;
    component = host.component;
    proto = rw host.proto tt;
    priority = host.priority;
    four = host.four;
    bytes = host.bytes;
    port = host.port;
  };
  kind = host.kind;
  proto = host.proto;
}

pub hosts_plain : (candidates : List Candidate) → AllByRecursion IsHostCandidate candidates → AllByRecursion IsHost candidates
hosts_plain [] hosts = tt
hosts_plain (candidate ∷ candidates) hosts = (host_plain candidate hosts.0, hosts_plain candidates hosts.1)

-- ---- the line of a row

-- an m-line of media with the credentials, the fingerprint and the role of its peer, and with what it carries
abbrev media_line : SdpHead → LineKind → Bool → List ℕ → Direction → LineMedia → MediaLine
media_line head kind stopped mid dir media = record (bare_line kind mid dir) {
  disabled = stopped;
  creds = Some head.creds;
  fingerprint = Some head.fingerprint;
  setup = Some head.setup;
  payloads = media.payloads;
  exts = media.exts;
  simulcast = media.simulcast;
  msid = shown_msid stopped media.msid;
  cname = name_of_sources (shown_ssrcs stopped media.ssrcs) media.cname;
  ssrcs = shown_ssrcs stopped media.ssrcs;
}

-- what is shown of a line that may be stopped
msid_shown : (stopped : Bool) (msid : Option Msid) → IfSome msid IsFormedMsid → IfSome (shown_msid stopped msid) IsFormedMsid
msid_shown true msid formed = tt
msid_shown false msid formed = formed

sources_shown : (stopped : Bool) (ssrcs : List (Ssrc × Option Ssrc)) → AllByRecursion IsFormedSource ssrcs
    → AllByRecursion IsFormedSource (shown_ssrcs stopped ssrcs)
sources_shown true ssrcs formed = tt
sources_shown false ssrcs formed = formed

name_shown : (ssrcs : List (Ssrc × Option Ssrc)) (cname : Option (List ℕ)) → IfSome cname (λ name. is_token name ≡ true)
    → IfSome (name_of_sources ssrcs cname) (λ name. is_token name ≡ true)
name_shown [] cname formed = tt
name_shown (ssrc ∷ ssrcs) cname formed = formed

named_by : (ssrcs : List (Ssrc × Option Ssrc)) (msid : Option Msid) (cname : Option (List ℕ)) → (ssrcs ≡ []) ⊎ (IsSome msid × IsSome cname)
    → (line : MediaLine) → line.msid ≡ msid → line.cname ≡ name_of_sources ssrcs cname → AreNamed ssrcs line
named_by [] msid cname named line msid_is cname_is = cname_is
named_by (ssrc ∷ ssrcs) msid cname (inl none) line msid_is cname_is = absurd (cc)
named_by (ssrc ∷ ssrcs) msid cname (inr both) line msid_is cname_is = (rw cname_is both.1, rw msid_is both.0)

media_named : (head : SdpHead) (kind : LineKind) (stopped : Bool) (mid : List ℕ) (dir : Direction) (media : LineMedia) → IsFormedMedia media
    → AreNamed (shown_ssrcs stopped media.ssrcs) (media_line head kind stopped mid dir media)
media_named head kind true mid dir media formed = refl
media_named head kind false mid dir media formed =
    named_by media.ssrcs media.msid media.cname formed.named (media_line head kind false mid dir media) refl refl

medium : (head : SdpHead) (kind : LineKind) (stopped : Bool) (mid : List ℕ) (dir : Direction) (media : LineMedia) → IsFormedMedia media
    → IsMediumLine (media_line head kind stopped mid dir media)
medium head kind stopped mid dir media formed = record {
  limit = refl;
  chunk = refl;
  named = media_named head kind stopped mid dir media formed;
  quiet = λ off. let is : stopped ≡ true = off in record { msid = rw is refl; cname = rw is refl; ssrcs = rw is refl };
}

media_legible : (head : SdpHead) (kind : LineKind) (stopped : Bool) (mid : List ℕ) (dir : Direction) (media : LineMedia) → IsFormedHead head
    → is_short_token mid ≡ true → IsFormedMedia media → SuitsKind kind (media_line head kind stopped mid dir media)
    → IsLegibleLine (media_line head kind stopped mid dir media)
media_legible head kind stopped mid dir media plain token formed suits = record {
  kind = suits;
  mid = token;
  candidates = tt;
  creds = refl;
  creds_form = creds_plain head.creds plain.creds;
  fingerprint = refl;
  fingerprint_form = hash_plain head.fingerprint plain.fingerprint;
  setup = refl;
  payloads = rows_plain media.payloads formed.payloads;
  payloads_apart = rows_apart media.payloads formed.payloads;
  exts = extensions_plain media.exts formed.exts;
  simulcast = layers_of_line media.simulcast formed.simulcast;
  msid = msid_of_line (shown_msid stopped media.msid) (msid_shown stopped media.msid formed.msid);
  cname = name_of_line (name_of_sources (shown_ssrcs stopped media.ssrcs) media.cname) (name_shown (shown_ssrcs stopped media.ssrcs) media.cname formed.cname);
  ssrcs = sources_of_line (shown_ssrcs stopped media.ssrcs) (sources_shown stopped media.ssrcs formed.ssrcs);
  max_message_size = tt;
  sctp_init = tt;
}

-- the m-line of the data channels
channel_line : SdpHead → List ℕ → MediaLine
channel_line head mid = record (bare_line Application mid SendRecv) {
  creds = Some head.creds;
  fingerprint = Some head.fingerprint;
  setup = Some head.setup;
  max_message_size = Some head.max_message_size;
  sctp_init = head.sctp_init;
}

channel_legible : (head : SdpHead) (mid : List ℕ) → IsFormedHead head → is_short_token mid ≡ true → IsLegibleLine (channel_line head mid)
unfolding channel_line
channel_legible head mid plain token = record {
  kind = record {
    dir = refl;
    live = refl;
    limit = refl;
    payloads = refl;
    exts = refl;
    simulcast = refl;
    msid = refl;
    cname = refl;
    ssrcs = refl;
  };
  mid = token;
  candidates = tt;
  creds = refl;
  creds_form = creds_plain head.creds plain.creds;
  fingerprint = refl;
  fingerprint_form = hash_plain head.fingerprint plain.fingerprint;
  setup = refl;
  payloads = tt;
  payloads_apart = tt;
  exts = tt;
  simulcast = tt;
  msid = tt;
  cname = tt;
  ssrcs = tt;
  max_message_size = let small = plain.size in let e : head.max_message_size < 2 ^ 64 = omega (arith, small) in e;
  sctp_init = init_plain head.sctp_init plain.init;
}

row_legible : (head : SdpHead) → IsFormedHead head → (media : LineMedia) → IsFormedMedia media → (row : LineRow) → is_short_token (row_mid row) ≡ true
    → IsLegibleLine (row_line head media row)
unfolding channel_line
row_legible head plain media formed (Media place mid Audio dir stopped remote_created) token =
    media_legible head AudioLine stopped mid dir media plain token formed (medium head AudioLine stopped mid dir media formed)
row_legible head plain media formed (Media place mid Video dir stopped remote_created) token =
    media_legible head VideoLine stopped mid dir media plain token formed (medium head VideoLine stopped mid dir media formed)
row_legible head plain media formed (App place mid) token = channel_legible head mid plain token

row_bare : (head : SdpHead) (media : LineMedia) (row : LineRow) → (row_line head media row).candidates ≡ []
row_bare head media (Media place mid kind dir stopped remote_created) = refl
row_bare head media (App place mid) = refl

-- the lines with a port are those of the rows that are not stopped
pub live_mids-same : (head : SdpHead) (told : List ToldRow) → live_mids (map row_told told) ≡ named_mids (map (told_line head) told)
live_mids-same head [] = refl
live_mids-same head (one ∷ told) = by one.row (live_mids-same head told)
  where
    by : (row : LineRow) → live_mids (map row_told told) ≡ named_mids (map (told_line head) told)
        → live_mids (row ∷ map row_told told) ≡ named_mids (row_line head one.media row ∷ map (told_line head) told)
    by (Media place mid kind dir true remote_created) rest = rest
    by (Media place mid kind dir false remote_created) rest = ap (λ mids. mid ∷ mids) rest
    by (App place mid) rest = ap (λ mids. mid ∷ mids) rest

pub bare_rows : (head : SdpHead) (told : List ToldRow) → AllByRecursion (λ line. line.candidates ≡ []) (map (told_line head) told)
bare_rows head [] = tt
bare_rows head (one ∷ told) = (row_bare head one.media one.row, bare_rows head told)

pub lines_legible : (head : SdpHead) (told : List ToldRow) → IsFormedHead head → HaveTokens (map row_told told) → AllByRecursion IsToldFormed told
    → AllByRecursion IsLegibleLine (map (told_line head) told)
lines_legible head [] plain tokens formed = tt
lines_legible head (one ∷ told) plain tokens formed =
    (row_legible head plain one.media formed.0 one.row tokens.0, lines_legible head told plain tokens.1 formed.1)
