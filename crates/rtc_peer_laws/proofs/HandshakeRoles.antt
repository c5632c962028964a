-- The handshake of a plain DTLS part is finished only with a part that has the other role.
use Rattle.std.proofs.Common.{◌≡◌, ◌∙◌, ◌∷◌, inl, inr, ℕ, Bool, true, false, List, [], Option, Some, refl, sym, ap, subst}
use Rattle.rtc_parts.specs.Among.{Member}
use Rattle.rtc_parts.specs.DtlsDrawn.{DrewPacket}
use Rattle.rtc_parts.specs.DtlsActs.{DtlsAct, Given, Taken, Sent, Got, Stirred, DtlsActed, DtlsMoved}
use Rattle.rtc_parts.specs.DtlsWords.{dtls_given, dtls_taken}
use Rattle.rtc_plain_dtls.specs.declared.output.Output.{Output}
use Rattle.rtc_plain_dtls.specs.declared.output.Output.TheVariants.{PeerCert, Keying, Connected, Data, Close}
use Rattle.rtc_plain_dtls.specs.declared.phase.Phase.{Phase}
use Rattle.rtc_plain_dtls.specs.declared.phase.Phase.TheVariants.{NoRole, AwaitStart, AwaitCert, AwaitHello, AwaitFinish, FinishedActive, FinishedPassive}
use Rattle.rtc_plain_dtls.specs.Held.{output_drawn}
use Rattle.rtc_plain_dtls.specs.Contents.{DtlsContents, fresh_dtls, phase_is_finished}
use Rattle.rtc_plain_dtls.specs.PlainMeaning.{PollsDtls, plain_dtls}
use Rattle.rtc_peer_laws.specs.PeerActs.{dtls_roles, role_of_act, roles_after}
use Rattle.rtc_peer_laws.proofs.ActWords.{roles_after-append}
use Rattle.rtc_peer_laws.proofs.HandshakeMarks.{role_in, CameAt, QueuedBy}
use Rattle.rtc_peer_laws.proofs.HandshakeSteps.{act_steps}

-- what came first, and what came behind it
head_given : (act : DtlsAct) (acts : List DtlsAct) (x : List ℕ) → Member x (dtls_given (act ∷ [])) → Member x (dtls_given (act ∷ acts))
head_given (Given packet) acts x (inl m) = inl m
head_given (Given packet) acts x (inr m) = absurd m
head_given (Taken packet) acts x m = absurd m
head_given (Sent bytes) acts x m = absurd m
head_given (Got bytes) acts x m = absurd m
head_given (Stirred call) acts x m = absurd m

tail_given : (act : DtlsAct) (acts : List DtlsAct) (x : List ℕ) → Member x (dtls_given acts) → Member x (dtls_given (act ∷ acts))
tail_given (Given packet) acts x m = inr m
tail_given (Taken packet) acts x m = m
tail_given (Sent bytes) acts x m = m
tail_given (Got bytes) acts x m = m
tail_given (Stirred call) acts x m = m

module _ (l : List (List ℕ)) where
  pub moved_role : (acts : List DtlsAct) (p q : DtlsContents) → DtlsMoved plain_dtls p acts q → ((x : List ℕ) → Member x (dtls_given acts) → Member x l)
      → role_in q.phase ≡ roles_after (role_in p.phase) (dtls_roles acts)
  moved_role [] p q h sub = ap (λ (c : DtlsContents). role_in c.phase) h
  moved_role (act ∷ acts) p q h sub =
      moved_role acts h.0 q h.1.1 (λ x m. sub x (tail_given act acts x m))
      ∙ ap (λ (r : Option Bool). roles_after r (dtls_roles acts)) (act_steps l act p h.0 h.1.0 (λ x m. sub x (head_given act acts x m))).role
      ∙ sym (roles_after-append (role_in p.phase) (role_of_act act) (dtls_roles acts))

  moved_came : (acts : List DtlsAct) (p q : DtlsContents) → DtlsMoved plain_dtls p acts q → ((x : List ℕ) → Member x (dtls_given acts) → Member x l)
      → CameAt l p.phase → CameAt l q.phase
  moved_came [] p q h sub k = subst (λ (c : DtlsContents). CameAt l c.phase) (sym h) k
  moved_came (act ∷ acts) p q h sub k =
      moved_came acts h.0 q h.1.1 (λ x m. sub x (tail_given act acts x m))
      ((act_steps l act p h.0 h.1.0 (λ x m. sub x (head_given act acts x m))).came k)

-- a role stays
roles_stay : (role : Bool) (roles : List Bool) → roles_after (Some role) roles ≡ Some role
roles_stay role [] = refl
roles_stay role (x ∷ roles) = roles_stay role roles

taken_queued : (packets : List (List ℕ)) (outputs : List Output) (p q : DtlsContents) (packet : List ℕ) → PollsDtls packets outputs p (DrewPacket packet) q
    → Member packet packets
taken_queued (y ∷ packets) outputs p q packet h = inl (cc (h.0))
taken_queued [] (y ∷ outputs) p q packet h = absurd (no_packet y h.0)
  where
    no_packet : (y : Output) → DrewPacket packet ≡ output_drawn y → ⊥
    no_packet (PeerCert cert) h = cc h
    no_packet Keying h = cc h
    no_packet Connected h = cc h
    no_packet (Data came) h = cc h
    no_packet Close h = cc h
taken_queued [] [] p q packet h = absurd (cc (h.0))

-- who gave a packet with a mark has the role
moved_marked : (mark : ℕ) (role : Bool)
    → ((l : List (List ℕ)) (act : DtlsAct) (p q : DtlsContents) → DtlsActed plain_dtls p act q → ((x : List ℕ) → Member x (dtls_given (act ∷ [])) → Member x l)
    → QueuedBy mark role p → QueuedBy mark role q)
    → (acts : List DtlsAct) (p q : DtlsContents) → DtlsMoved plain_dtls p acts q → QueuedBy mark role p → (rest : List ℕ)
    → Member (22 ∷ mark ∷ rest) (dtls_taken acts) → role_in q.phase ≡ Some role
moved_marked mark role keeps [] p q h queued rest m = absurd m
moved_marked mark role keeps (Taken packet ∷ acts) p q h queued rest (inl m) =
    let had : role_in p.phase ≡ Some role =
    queued rest (subst (λ (x : List ℕ). Member x p.packets) (sym m) (taken_queued p.packets p.outputs p h.0 packet h.1.0)) in
    moved_role (dtls_given (Taken packet ∷ acts)) (Taken packet ∷ acts) p q h (λ x n. n)
    ∙ ap (λ (r : Option Bool). roles_after r (dtls_roles (Taken packet ∷ acts))) had
    ∙ roles_stay role (dtls_roles (Taken packet ∷ acts))
moved_marked mark role keeps (Taken packet ∷ acts) p q h queued rest (inr m) =
    moved_marked mark role keeps acts h.0 q h.1.1 (keeps [] (Taken packet) p h.0 h.1.0 (λ x n. n) queued) rest m
moved_marked mark role keeps (Given packet ∷ acts) p q h queued rest m =
    moved_marked mark role keeps acts h.0 q h.1.1 (keeps (packet ∷ []) (Given packet) p h.0 h.1.0 (λ x n. n) queued) rest m
moved_marked mark role keeps (Sent bytes ∷ acts) p q h queued rest m =
    moved_marked mark role keeps acts h.0 q h.1.1 (keeps [] (Sent bytes) p h.0 h.1.0 (λ x n. n) queued) rest m
moved_marked mark role keeps (Got bytes ∷ acts) p q h queued rest m =
    moved_marked mark role keeps acts h.0 q h.1.1 (keeps [] (Got bytes) p h.0 h.1.0 (λ x n. n) queued) rest m
moved_marked mark role keeps (Stirred call ∷ acts) p q h queued rest m =
    moved_marked mark role keeps acts h.0 q h.1.1 (keeps [] (Stirred call) p h.0 h.1.0 (λ x n. n) queued) rest m

-- The handshake of a part is finished only where the part that its packets came from has the other role.
pub roles_differ : (a b : List DtlsAct) (p q : DtlsContents) → DtlsMoved plain_dtls fresh_dtls a p → DtlsMoved plain_dtls fresh_dtls b q
    → ((bytes : List ℕ) → Member (22 ∷ bytes) (dtls_given a) → Member (22 ∷ bytes) (dtls_taken b)) → phase_is_finished p.phase ≡ true
    → role_in q.phase ≡ role_in p.phase → ⊥
roles_differ a b p q here there crosses finished same =
    by p.phase refl finished (moved_came (dtls_given a) a fresh_dtls p here (λ x m. m) tt)
  where
    active_not : Some false ≡ Some true → ⊥
    active_not h = cc

    passive_not : Some true ≡ Some false → ⊥
    passive_not h = cc

    unfinished : false ≡ true → ⊥
    unfinished h = cc

    by : (phase : Phase) → p.phase ≡ phase → phase_is_finished phase ≡ true → CameAt (dtls_given a) phase → ⊥
    by NoRole is done came = unfinished done
    by AwaitStart is done came = unfinished done
    by AwaitCert is done came = unfinished done
    by AwaitHello is done came = unfinished done
    by AwaitFinish is done came = unfinished done
    by FinishedActive is done came =
        active_not
        (sym (moved_marked 2 false (λ l act p q h sub k. (act_steps l act p q h sub).cert k) b fresh_dtls q there (λ rest m. absurd m) came.0
        (crosses (2 ∷ came.0) came.1))
        ∙ same ∙ ap role_in is)
    by FinishedPassive is done came =
        passive_not
        (sym (moved_marked 1 true (λ l act p q h sub k. (act_steps l act p q h sub).hello k) b fresh_dtls q there (λ rest m. absurd m) came.0
        (crosses (1 ∷ came.0) came.1))
        ∙ same ∙ ap role_in is)
