-- Acts of the plain association by which no item comes leave a stream there, and nothing to be reported that was received.
use Rattle.std.proofs.Common.{◌≡◌, ◌∙◌, ◌+◌, ◌≤◌, ◌∷◌, ℕ, Bool, true, false, true≢false, List, [], length, Option, None, refl, sym, ap, subst, arith}
use Rattle.rtc_parts.specs.declared.assoc_error.AssocError.{AssocError}
use Rattle.rtc_parts.specs.declared.assoc_error.AssocError.TheVariants.{StreamExists, ResetPending}
use Rattle.rtc_parts.specs.AssociationNeeds.{need}
use Rattle.rtc_parts.specs.AssociationActs.{AssociationAct, Given, Taken, Acted, Moved}
use Rattle.rtc_parts.specs.AssociationWords.{given}
use Rattle.rtc_parts.proofs.AssociationLemmas.{generation_rises}
use Rattle.rtc_assoc_state.specs.declared.item.Item.{Item}
use Rattle.rtc_assoc_state.specs.Contents.{Contents, closed_here, generation_of, has_stream}
use Rattle.rtc_assoc_state.specs.PlainMeaning.{plain_meaning, ending_cause}
use Rattle.rtc_assoc_state.proofs.DoesLemmas.{polls_some}
use Rattle.rtc_assoc_state.proofs.PlainLaws.{plain_laws}
use Rattle.rtc_assoc.proofs.CoreLemmas.{Causes}
use Rattle.rtc_assoc.proofs.StepLemmas.{step_of}
use Rattle.rtc_sctp_laws.specs.GenerationLaws.{gives_packet}
use Rattle.rtc_sctp_laws.proofs.PlainGenerations.{plain_generations}
use Rattle.rtc_run_laws.proofs.EndReports.{no_packet}
use Rattle.rtc_run_laws.proofs.QuietActs.{given_none}
use Rattle.rtc_run_laws.proofs.ShutPolls.{IsCalm, ShutLaws}
use Rattle.rtc_run_laws.proofs.SilentEnds.{IsSilentEnd, silent_act, silent_given, silent_rest}

exists_no : (has : Bool) (next : Option AssocError) → need has StreamExists next ≡ None → has ≡ true → ⊥
exists_no true next h e = cc
exists_no false next h e = true≢false (sym e)

pub plain_shut : ShutLaws plain_meaning IsSilentEnd
plain_shut = record {
  exists = λ a b s there called. exists_no (has_stream a s) (need (closed_here a s) ResetPending (ending_cause a)) called.0 there;
  acts = λ a b act none h k. silent_act a b act none h k;
  tells = λ a b e h k. let w = polls_some a.events a b e h in (silent_rest e a.events w.0.rest w.0.is k).0;
}

-- counts of items rise
more_received : (p q : Contents) (act : AssociationAct) → Acted plain_meaning p act q → p.inbox.received ≤ q.inbox.received
more_received p q act h = let count = (step_of p q act h).core.gets.count in omega (arith, count)

pub received_rises : (acts : List AssociationAct) (p q : Contents) → Moved plain_meaning p acts q → p.inbox.received ≤ q.inbox.received
received_rises [] p q h = let same = ap (λ (x : Contents). x.inbox.received) h in omega (arith, same)
received_rises (act ∷ acts) p q h =
    let first = more_received p h.0 act h.1.0 in
    let rest = received_rises acts h.0 q h.1.1 in
    omega (arith, first, rest)

pub generations_rise : (s : ℕ) (acts : List AssociationAct) (p q : Contents) → Moved plain_meaning p acts q → generation_of p s ≤ generation_of q s
generations_rise s [] p q h = let same = ap (λ (x : Contents). generation_of x s) h in omega (arith, same)
generations_rise s (act ∷ acts) p q h =
    let first = generation_rises plain_meaning plain_laws p h.0 act s h.1.0 in
    let rest = generations_rise s acts h.0 q h.1.1 in
    omega (arith, first, rest)

calm_by : (s : ℕ) (act : AssociationAct) (p q : Contents) → Acted plain_meaning p act q → q.inbox.received ≡ p.inbox.received
    → generation_of q s ≡ generation_of p s → IsCalm plain_meaning IsSilentEnd plain_laws plain_generations plain_shut s p
    → IsCalm plain_meaning IsSilentEnd plain_laws plain_generations plain_shut s q
calm_by s (Given bytes) p q h same own k =
    ((plain_generations.packets_keep s h.0 bytes p q h.1.0 h.1.1 own).there k.0, silent_given p q h.0 bytes h.1.0 h.1.1 same k.1)
calm_by s act p q h same own k = ((plain_generations.acts_keep s p q act refl h).there k.0, silent_act p q act refl h k.1)

between_same : (a b c : ℕ) → a ≤ b → b ≤ c → c ≡ a → (b ≡ a) × (c ≡ b)
between_same a b c one two e = (omega (arith, one, two, e), omega (arith, one, two, e))

pub calm_moved : (s : ℕ) (acts : List AssociationAct) (p q : Contents) → Moved plain_meaning p acts q → q.inbox.received ≡ p.inbox.received
    → generation_of q s ≡ generation_of p s → IsCalm plain_meaning IsSilentEnd plain_laws plain_generations plain_shut s p
    → IsCalm plain_meaning IsSilentEnd plain_laws plain_generations plain_shut s q
calm_moved s [] p q h same own k = subst (λ (x : Contents). IsCalm plain_meaning IsSilentEnd plain_laws plain_generations plain_shut s x) (sym h) k
calm_moved s (act ∷ acts) p q h same own k =
    let counts =
    between_same p.inbox.received h.0.inbox.received q.inbox.received (more_received p h.0 act h.1.0) (received_rises acts h.0 q h.1.1) same in
    let generations =
    between_same (generation_of p s) (generation_of h.0 s) (generation_of q s) (generation_rises plain_meaning plain_laws p h.0 act s h.1.0) (generations_rise s acts h.0 q h.1.1) own in
    calm_moved s acts h.0 q h.1.1 counts.1 generations.1 (calm_by s act p h.0 h.1.0 counts.0 generations.0 k)

-- acts without a packet bring none
got_none : (act : AssociationAct) (p : Contents) (count : ℕ) (got : List Item) → gives_packet act ≡ false → Causes p act count got → got ≡ []
got_none (Given b) p count got g h = absurd (no_packet g)
got_none (Taken b) p count got g h = h.1
got_none (_) p count got g h = h.1

pub received_still : (acts : List AssociationAct) (p q : Contents) → Moved plain_meaning p acts q → given acts ≡ []
    → q.inbox.received ≡ p.inbox.received
received_still [] p q h none = ap (λ (x : Contents). x.inbox.received) h
received_still (act ∷ acts) p q h none =
    let quiet = given_none act acts none in
    let core = (step_of p h.0 act h.1.0).core in
    let first : h.0.inbox.received ≡ p.inbox.received =
    core.gets.count ∙ ap (λ (l : List Item). p.inbox.received + length l) (got_none act p core.count core.got quiet.0 core.causes) ∙ plus_none p.inbox.received in
    received_still acts h.0 q h.1.1 quiet.1 ∙ first
  where
    plus_none : (n : ℕ) → n + 0 ≡ n
    plus_none n = omega arith
