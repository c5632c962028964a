-- A candidate that is written is read back.
use Rattle.std.proofs.lemmas.List.{append-nil}
use Rattle.rtc_wire_text.specs.Tokens.{is_token}
use Rattle.std.proofs.Common.{◌≡◌, ℕ, ◌^◌, ◌<◌, ◌≤◌, List, [], ◌∷◌, length, map, Some, refl, ap, ◌∙◌, arith, ◌++◌}
use Rattle.std.specs.Prelude.{codes, option_map}
use Rattle.std.specs.Fmt.{decimal}
use Rattle.std.specs.List.{AllByRecursion}
use Rattle.std.proofs.lemmas.Bool.{ne_eqb}
use Rattle.rtc_wire_text.specs.Cuts.{Lacks}
use Rattle.rtc_wire_text.specs.Numbers.{number_up_to}
use Rattle.rtc_wire_text.specs.Words.{spaced}
use Rattle.rtc_wire_text.proofs.CutLemmas.{token_lacks, no_token_byte, no_digit, lacks-append, lacks-joined, lacks-after_each}
use Rattle.rtc_wire_text.proofs.NumberLemmas.{number_up_to-decimal, decimal_lacks}
use Rattle.rtc_wire.specs.declared.protocol.Protocol.{Protocol}
use Rattle.rtc_wire.specs.declared.protocol.Protocol.TheVariants.{Udp, Tcp, SslTcp, Tls}
use Rattle.rtc_sdp_values.specs.declared.candidate.Candidate.{Candidate}
use Rattle.rtc_sdp_values.specs.declared.candidate_kind.CandidateKind.{CandidateKind}
use Rattle.rtc_sdp_values.specs.declared.candidate_kind.CandidateKind.TheVariants.{Host, ServerReflexive, PeerReflexive, Relayed}
use Rattle.rtc_sdp_attributes.specs.Forms.{Form, token, one_of, in_lower, split_fields}
use Rattle.rtc_sdp_attributes.specs.AttributeForms.{protocol_words, candidate_kind_words, byte_number, ip as ip_form, ip_made, candidate_end, candidate_addr, candidate as candidate_form, candidate_made}
use Rattle.rtc_sdp_attributes.specs.AttributeTexts.{protocol_word, candidate_kind_word, ip_text, candidate_text}
use Rattle.rtc_sdp_attributes.specs.PlainValues.{IsNamed, IsPlainCandidate}
use Rattle.rtc_sdp_attributes.proofs.FormLemmas.{passing_again, parted_again}

protocol_again : (proto : Protocol) → IsNamed proto → in_lower (one_of protocol_words) (protocol_word proto) ≡ Some proto
protocol_again Udp h = refl
protocol_again Tcp h = refl
protocol_again SslTcp h = absurd h
protocol_again Tls h = absurd h

kind_again : (kind : CandidateKind) → one_of candidate_kind_words (candidate_kind_word kind) ≡ Some kind
kind_again Host = refl
kind_again ServerReflexive = refl
kind_again PeerReflexive = refl
kind_again Relayed = refl

protocol_lacks : (byte : ℕ) → byte < 33 → (proto : Protocol) → Lacks byte (protocol_word proto)
protocol_lacks byte low Udp = (ne_eqb 117 byte (λ e. omega arith), (ne_eqb 100 byte (λ e. omega arith), (ne_eqb 112 byte (λ e. omega arith), tt)))
protocol_lacks byte low Tcp = (ne_eqb 116 byte (λ e. omega arith), (ne_eqb 99 byte (λ e. omega arith), (ne_eqb 112 byte (λ e. omega arith), tt)))
protocol_lacks byte low SslTcp = token_lacks byte (no_token_byte byte low) (codes "ssltcp") refl
protocol_lacks byte low Tls = token_lacks byte (no_token_byte byte low) (codes "tls") refl

kind_lacks : (byte : ℕ) → byte < 33 → (kind : CandidateKind) → Lacks byte (candidate_kind_word kind)
kind_lacks byte low Host = token_lacks byte (no_token_byte byte low) (codes "host") refl
kind_lacks byte low ServerReflexive = token_lacks byte (no_token_byte byte low) (codes "srflx") refl
kind_lacks byte low PeerReflexive = token_lacks byte (no_token_byte byte low) (codes "prflx") refl
kind_lacks byte low Relayed = token_lacks byte (no_token_byte byte low) (codes "relay") refl

abbrev AreBytes : List ℕ → Type 0
AreBytes ip = AllByRecursion (λ byte. byte ≤ 255) ip

small : (n : ℕ) → n ≤ 255 → n < 2 ^ 64
small n h = omega arith

dot_lacks : (n : ℕ) → n ≤ 255 → Lacks 46 (decimal n)
dot_lacks n h = decimal_lacks 46 refl n (small n h)

byte_again : (n : ℕ) → n ≤ 255 → number_up_to 255 (decimal n) ≡ Some n
byte_again n h = number_up_to-decimal 255 n h (small n h)

ip_again : (ip : List ℕ) → length ip ≡ 4 → AreBytes ip → ip_form (ip_text ip) ≡ Some ip
ip_again [] e h = absurd (omega arith)
ip_again (a ∷ []) e h = absurd (omega arith)
ip_again (a ∷ b ∷ []) e h = absurd (omega arith)
ip_again (a ∷ b ∷ c ∷ []) e h = absurd (omega arith)
ip_again (a ∷ b ∷ c ∷ d ∷ []) e h =
    let two : Form (ℕ × ℕ) = split_fields 46 byte_number byte_number in
    let three : Form (ℕ × (ℕ × ℕ)) = split_fields 46 byte_number two in
    let fourth : split_fields 46 byte_number byte_number (decimal c ++ (46 ∷ (decimal d ++ []))) ≡ Some (c, d) =
    ap (λ (l : List ℕ). two (decimal c ++ (46 ∷ l))) (append-nil (decimal d)) ∙ parted_again 46 byte_number byte_number (decimal c) (decimal d) c d (dot_lacks c h.1.1.0) (byte_again c h.1.1.0) (byte_again d h.1.1.1.0) in
    ap (option_map ip_made) (parted_again 46 byte_number three (decimal a) (decimal b ++ (46 ∷ (decimal c ++ (46 ∷ (decimal d ++ []))))) a (b, (c, d)) (dot_lacks a h.0) (byte_again a h.0)
    (parted_again 46 byte_number two (decimal b) (decimal c ++ (46 ∷ (decimal d ++ []))) b (c, d) (dot_lacks b h.1.0) (byte_again b h.1.0) fourth))
ip_again (a ∷ b ∷ c ∷ d ∷ x ∷ rest) e h = absurd (omega arith)

decimals_lack : (byte : ℕ) → byte < 33 → (ip : List ℕ) → AreBytes ip → AllByRecursion (λ w. Lacks byte w) (map decimal ip)
decimals_lack byte low [] h = tt
decimals_lack byte low (n ∷ ns) h = (decimal_lacks byte (no_digit byte low) n (small n h.0), decimals_lack byte low ns h.1)

ip_lacks : (byte : ℕ) → byte < 33 → (ip : List ℕ) → AreBytes ip → Lacks byte (ip_text ip)
ip_lacks byte low ip h = lacks-joined byte 46 (ne_eqb 46 byte (λ e. omega arith)) (map decimal ip) (decimals_lack byte low ip h)

abbrev fields_of : Candidate → List (List ℕ)
fields_of c = decimal c.component ∷ protocol_word c.proto ∷ decimal c.priority ∷ ip_text c.addr.ip ∷ decimal c.addr.port ∷ codes "typ" ∷ candidate_kind_word c.kind ∷ []

fields_lack : (byte : ℕ) → byte < 33 → (c : Candidate) → IsPlainCandidate c → AllByRecursion (λ w. Lacks byte w) (fields_of c)
fields_lack byte low c h =
    let n1 : c.component < 2 ^ 64 = omega (arith, h.component) in
    let n2 : c.priority < 2 ^ 64 = omega (arith, h.priority) in
    let n3 : c.addr.port < 2 ^ 64 = omega (arith, h.port) in (
      decimal_lacks byte (no_digit byte low) c.component n1,
      (
        protocol_lacks byte low c.proto,
        (
          decimal_lacks byte (no_digit byte low) c.priority n2,
          (
            ip_lacks byte low c.addr.ip h.bytes,
            (
              decimal_lacks byte (no_digit byte low) c.addr.port n3,
              (
                token_lacks byte (no_token_byte byte low) (codes "typ") refl,
                (kind_lacks byte low c.kind, tt),
              ),
            ),
          ),
        ),
      ),
    )

-- behind the address: the kind, and nothing more
kind_end : (kind : CandidateKind) → candidate_end (codes "typ" ++ (32 ∷ (candidate_kind_word kind ++ []))) ≡ Some kind
kind_end Host = refl
kind_end ServerReflexive = refl
kind_end PeerReflexive = refl
kind_end Relayed = refl

pub candidate_again : (candidate : Candidate) → IsPlainCandidate candidate → candidate_form (candidate_text candidate) ≡ Some candidate
unfolding candidate_text
candidate_again c h =
    let n1 : c.component < 2 ^ 64 = omega (arith, h.component) in
    let n2 : c.priority < 2 ^ 64 = omega (arith, h.priority) in
    let n3 : c.addr.port < 2 ^ 64 = omega (arith, h.port) in
    let low : 32 < 33 = omega arith in
    let proto_form : Form Protocol = in_lower (one_of protocol_words) in
    let end : List ℕ = codes "typ" ++ (32 ∷ (candidate_kind_word c.kind ++ [])) in
    let at_port : List ℕ = decimal c.addr.port ++ (32 ∷ end) in
    let at_ip : List ℕ = ip_text c.addr.ip ++ (32 ∷ at_port) in
    let at_priority : List ℕ = decimal c.priority ++ (32 ∷ at_ip) in
    let at_proto : List ℕ = protocol_word c.proto ++ (32 ∷ at_priority) in
    let at_component : List ℕ = decimal c.component ++ (32 ∷ at_proto) in
    let from_port : split_fields 32 (number_up_to 65535) candidate_end at_port ≡ Some (c.addr.port, c.kind) =
    parted_again 32 (number_up_to 65535) candidate_end (decimal c.addr.port) end c.addr.port c.kind (decimal_lacks 32 refl c.addr.port n3) (number_up_to-decimal 65535 c.addr.port h.port n3) (kind_end c.kind) in
    let from_ip : candidate_addr at_ip ≡ Some (c.addr.ip, (c.addr.port, c.kind)) =
    parted_again 32 ip_form (split_fields 32 (number_up_to 65535) candidate_end) (ip_text c.addr.ip) at_port c.addr.ip (c.addr.port, c.kind) (ip_lacks 32 low c.addr.ip h.bytes) (ip_again c.addr.ip h.four h.bytes) from_port in
    let from_priority : split_fields 32 (number_up_to 4294967295) candidate_addr at_priority ≡ Some (c.priority, (c.addr.ip, (c.addr.port, c.kind))) =
    parted_again 32 (number_up_to 4294967295) candidate_addr (decimal c.priority) at_ip c.priority (c.addr.ip, (c.addr.port, c.kind)) (decimal_lacks 32 refl c.priority n2) (number_up_to-decimal 4294967295 c.priority h.priority n2) from_ip in
    let from_proto : split_fields 32 proto_form (split_fields 32 (number_up_to 4294967295) candidate_addr) at_proto ≡ Some (c.proto, (c.priority, (c.addr.ip, (c.addr.port, c.kind)))) =
    parted_again 32 proto_form (split_fields 32 (number_up_to 4294967295) candidate_addr) (protocol_word c.proto) at_priority c.proto (c.priority, (c.addr.ip, (c.addr.port, c.kind))) (protocol_lacks 32 low c.proto) (protocol_again c.proto h.proto) from_priority in
    let from_component : split_fields 32 (number_up_to 65535) (split_fields 32 proto_form (split_fields 32 (number_up_to 4294967295) candidate_addr)) at_component ≡ Some (c.component, (c.proto, (c.priority, (c.addr.ip, (c.addr.port, c.kind))))) =
    parted_again 32 (number_up_to 65535) (split_fields 32 proto_form (split_fields 32 (number_up_to 4294967295) candidate_addr)) (decimal c.component) at_proto c.component (c.proto, (c.priority, (c.addr.ip, (c.addr.port, c.kind)))) (decimal_lacks 32 refl c.component n1) (number_up_to-decimal 65535 c.component h.component n1) from_proto in
    ap (option_map candidate_made) (parted_again 32 token (split_fields 32 (number_up_to 65535) (split_fields 32 proto_form (split_fields 32 (number_up_to 4294967295) candidate_addr))) c.foundation at_component c.foundation (c.component, (c.proto, (c.priority, (c.addr.ip, (c.addr.port, c.kind))))) (token_lacks 32 refl c.foundation h.foundation) (passing_again is_token c.foundation h.foundation) from_component)

-- its text ends no line
pub candidate_lacks : (byte : ℕ) → byte < 32 → (candidate : Candidate) → IsPlainCandidate candidate → Lacks byte (candidate_text candidate)
unfolding candidate_text
candidate_lacks byte low c h =
    lacks-append byte c.foundation (spaced (fields_of c))
    (token_lacks byte (no_token_byte byte (omega arith)) c.foundation h.foundation)
    (lacks-after_each byte 32 (ne_eqb 32 byte (λ e. omega arith)) (fields_of c) (fields_lack byte (omega arith) c h))
