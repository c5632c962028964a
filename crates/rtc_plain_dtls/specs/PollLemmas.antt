-- What a poll of the plain part draws, and what it leaves.
use Rattle.std.proofs.Common.{ℕ, ◌≡◌, ◌≤◌, ◌<◌, ◌+◌, true, false, List, ◌∷◌, length, refl, sym, ap, ◌∙◌, arith, []}
use Rattle.rtc_parts.specs.DtlsDrawn.{DtlsDrawn, DrewTimeout, drawn_bytes, drawn_units, drawn_packets, draws_output}
use Rattle.rtc_plain_dtls.specs.declared.output.Output.{Output}
use Rattle.rtc_plain_dtls.specs.declared.output.Output.TheVariants.{PeerCert, Keying, Connected, Data, Close}
use Rattle.rtc_plain_dtls.specs.declared.phase.Phase.{Phase}
use Rattle.rtc_plain_dtls.specs.Held.{output_drawn, outputs_units}
use Rattle.rtc_plain_dtls.specs.Contents.{DtlsContents, resends, asks_at, asks_of}
use Rattle.rtc_plain_dtls.specs.PlainMeaning.{PollsDtls}

output_gives : (output : Output) → draws_output (output_drawn output) ≡ true
output_gives (PeerCert cert) = refl
output_gives Keying = refl
output_gives Connected = refl
output_gives (Data bytes) = refl
output_gives Close = refl

output_packets : (output : Output) → drawn_packets (output_drawn output) ≡ 0
output_packets (PeerCert cert) = refl
output_packets Keying = refl
output_packets Connected = refl
output_packets (Data bytes) = refl
output_packets Close = refl

abbrev moment_in : DtlsDrawn → ℕ
moment_in (DrewTimeout moment) = moment
moment_in _ = 0

-- a timeout is returned if both queues are empty
pub timeout_only : (packets : List (List ℕ)) (outputs : List Output) (p q : DtlsContents) (moment : ℕ)
    → PollsDtls packets outputs p (DrewTimeout moment) q → (length packets + length outputs ≡ 0) × (q ≡ p) × (moment ≡ asks_of p)
timeout_only (x ∷ packets) outputs p q moment h = absurd (cc (h.0))
timeout_only [] (x ∷ outputs) p q moment h = absurd (let e : false ≡ true = ap draws_output h.0 ∙ output_gives x in cc)
timeout_only [] [] p q moment h = (refl, h.1, ap moment_in h.0)

pub empties : (packets : List (List ℕ)) (outputs : List Output) (p : DtlsContents) → length packets + length outputs ≡ 0
    → PollsDtls packets outputs p (DrewTimeout (asks_of p)) p
empties (x ∷ packets) outputs p e = absurd (omega (arith, e))
empties [] (x ∷ outputs) p e = absurd (omega (arith, e))
empties [] [] p e = (refl, refl)

-- if both queues are empty, no unit of input is held
pub no_units : (packets : List (List ℕ)) (outputs : List Output) → length packets + length outputs ≡ 0 → outputs_units outputs ≡ 0
no_units packets [] e = refl
no_units packets (x ∷ outputs) e = absurd (omega (arith, e))

abbrev pub count_queued : DtlsContents → ℕ
count_queued p = length p.packets + length p.outputs

pub polled_falls : (packets : List (List ℕ)) (outputs : List Output) (p q : DtlsContents) (drawn : DtlsDrawn) → p.packets ≡ packets
    → p.outputs ≡ outputs → draws_output drawn ≡ true → PollsDtls packets outputs p drawn q → count_queued q < count_queued p
polled_falls (x ∷ packets) outputs p q drawn e f g h = omega (arith, ap length e, ap count_queued h.2)
polled_falls [] (x ∷ outputs) p q drawn e f g h = omega (arith, ap length f, ap count_queued h.2)
polled_falls [] [] p q drawn e f g h = absurd (let k : false ≡ true = sym (ap draws_output h.0) ∙ g in cc)

pub polled_short : (packets : List (List ℕ)) (outputs : List Output) (p q : DtlsContents) (drawn : DtlsDrawn)
    → PollsDtls packets outputs p drawn q → length (drawn_bytes drawn) ≤ 2000
polled_short (x ∷ packets) outputs p q drawn h = omega (arith, ap (λ d. length (drawn_bytes d)) h.0, h.1)
polled_short [] (x ∷ outputs) p q drawn h = omega (arith, ap (λ d. length (drawn_bytes d)) h.0, h.1)
polled_short [] [] p q drawn h = omega (arith, ap (λ d. length (drawn_bytes d)) h.0)

pub polled_input : (packets : List (List ℕ)) (outputs : List Output) (p q : DtlsContents) (drawn : DtlsDrawn) → p.outputs ≡ outputs
    → PollsDtls packets outputs p drawn q → outputs_units q.outputs + drawn_units drawn ≤ outputs_units p.outputs
polled_input (x ∷ packets) outputs p q drawn f h =
    omega (arith, ap drawn_units h.0, ap (λ (c : DtlsContents). outputs_units c.outputs) h.2)
polled_input [] (x ∷ outputs) p q drawn f h =
    omega (arith, ap drawn_units h.0, ap outputs_units f, ap (λ (c : DtlsContents). outputs_units c.outputs) h.2)
polled_input [] [] p q drawn f h =
    omega (arith, ap drawn_units h.0, ap (λ (c : DtlsContents). outputs_units c.outputs) h.1)

pub polled_output : (packets : List (List ℕ)) (outputs : List Output) (p q : DtlsContents) (drawn : DtlsDrawn) → p.packets ≡ packets
    → PollsDtls packets outputs p drawn q → length q.packets + drawn_packets drawn ≤ length p.packets
polled_output (x ∷ packets) outputs p q drawn e h =
    omega (arith, ap drawn_packets h.0, ap length e, ap (λ (c : DtlsContents). length c.packets) h.2)
polled_output [] (x ∷ outputs) p q drawn e h =
    omega (arith, ap drawn_packets h.0 ∙ output_packets x, ap (λ (c : DtlsContents). length c.packets) h.2)
polled_output [] [] p q drawn e h =
    omega (arith, ap drawn_packets h.0, ap (λ (c : DtlsContents). length c.packets) h.1)

pub polled_keeps : (packets : List (List ℕ)) (outputs : List Output) (p q : DtlsContents) (drawn : DtlsDrawn)
    → PollsDtls packets outputs p drawn q → (q.phase ≡ p.phase) × (q.greatest ≡ p.greatest)
polled_keeps (x ∷ packets) outputs p q drawn h = (ap (λ (c : DtlsContents). c.phase) h.2, ap (λ (c : DtlsContents). c.greatest) h.2)
polled_keeps [] (x ∷ outputs) p q drawn h = (ap (λ (c : DtlsContents). c.phase) h.2, ap (λ (c : DtlsContents). c.greatest) h.2)
polled_keeps [] [] p q drawn h = (ap (λ (c : DtlsContents). c.phase) h.1, ap (λ (c : DtlsContents). c.greatest) h.1)

pub same_asks : (p q : DtlsContents) → (q.phase ≡ p.phase) × (q.greatest ≡ p.greatest) → asks_of p ≤ asks_of q
same_asks p q k = omega (
  arith,
  ap (λ (x : Phase). asks_at (resends x) q.greatest) k.0,
  ap (λ (n : ℕ). asks_at (resends p.phase) n) k.1,
)
