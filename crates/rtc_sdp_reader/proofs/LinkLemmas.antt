-- The links of formats, one format at a time.
use Rattle.std.proofs.Common.{◌≡◌, ◌<◌, ◌+◌, ℕ, List, [], ◌∷◌, ◌++◌, length, drop, get_or, map, Some, None, subst, append_assoc, add-one, drop-cons}
use Rattle.rtc_wire_text.specs.Fields.{first}
use Rattle.rtc_sdp_attributes.specs.declared.fmtp.Fmtp.{Fmtp}
use Rattle.rtc_sdp_attributes.specs.declared.rtpmap.Rtpmap.{Rtpmap}
use Rattle.rtc_sdp_reader.specs.Payloads as spec
use Rattle.rtc_sdp_reader.specs.declared.link.Link.{Link}

-- the links of the formats from one on
abbrev pub links_from : List ℕ → List Rtpmap → List Fmtp → List Link
links_from formats codecs fmtps = map spec.link_of (spec.entries formats codecs fmtps)

from_here : (formats : List ℕ) (i format : ℕ) → i < length formats → format ≡ get_or formats i 0 → drop i formats ≡ format ∷ drop (i + 1) formats
from_here formats i format within is =
    let cons : drop i formats ≡ get_or formats i 0 ∷ drop (i + 1) formats = rw add-one (drop-cons formats i 0 within) in
    rw is cons

-- a format without a codec has none
pub no_link : (codecs : List Rtpmap) (fmtps : List Fmtp) (formats : List ℕ) (i format : ℕ) (done all : List Link)
    → i < length formats → format ≡ get_or formats i 0 → first (spec.codec_for format) codecs ≡ None
    → done ++ links_from (drop i formats) codecs fmtps ≡ all → done ++ links_from (drop (i + 1) formats) codecs fmtps ≡ all
no_link codecs fmtps formats i format done all within is none h =
    let inv : done ++ links_from (format ∷ drop (i + 1) formats) codecs fmtps ≡ all =
    subst (λ (left : List ℕ). done ++ links_from left codecs fmtps ≡ all) (from_here formats i format within is) h in
    rw none at inv

-- one that has a codec has one
pub one_link : (codecs : List Rtpmap) (fmtps : List Fmtp) (formats : List ℕ) (i format : ℕ) (codec : Rtpmap) (link : Link) (done more all : List Link)
    → i < length formats → format ≡ get_or formats i 0 → first (spec.codec_for format) codecs ≡ Some codec
    → link ≡ spec.link_of (record { codec = codec; fmtp = spec.fmtp_for fmtps format }) → more ≡ done ++ link ∷ []
    → done ++ links_from (drop i formats) codecs fmtps ≡ all → more ++ links_from (drop (i + 1) formats) codecs fmtps ≡ all
one_link codecs fmtps formats i format codec link done more all within is found link_is more_is h =
    let inv : done ++ links_from (format ∷ drop (i + 1) formats) codecs fmtps ≡ all =
    subst (λ (left : List ℕ). done ++ links_from left codecs fmtps ≡ all) (from_here formats i format within is) h in
    rw (more_is, link_is, append_assoc) (rw found at inv)
