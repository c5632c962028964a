-- What packets and time add to the queues of a plain part: what is reported of application data was in a received packet, and no
-- application data is sent.
use Rattle.std.proofs.Common.{ℕ, ◌≡◌, ◌≤◌, ◌+◌, Bool, true, false, inl, inr, List, [], ◌∷◌, ◌++◌, length}
use Rattle.std.proofs.Common.{refl, sym, ap, arith, append-nil, length-append}
use Rattle.rtc_parts.specs.Among.{Member}
use Rattle.rtc_plain_dtls.specs.declared.output.Output.{Output}
use Rattle.rtc_plain_dtls.specs.declared.output.Output.TheVariants.{PeerCert, Keying, Connected, Data, Close}
use Rattle.rtc_plain_dtls.specs.declared.phase.Phase.{Phase}
use Rattle.rtc_plain_dtls.specs.declared.phase.Phase.TheVariants.{
  NoRole,
  AwaitStart,
  AwaitCert,
  AwaitHello,
  AwaitFinish,
  FinishedActive,
  FinishedPassive,
}
use Rattle.rtc_plain_dtls.specs.Frames as said
use Rattle.rtc_plain_dtls.specs.Frames.{DtlsFrame, certificate_packet, finish_packet}
use Rattle.rtc_plain_dtls.specs.Contents.{DtlsContents}
use Rattle.rtc_plain_dtls.specs.Calls.{
  went_on,
  start_came,
  hello_came,
  certificate_came,
  finish_came,
  data_came,
  close_told,
  dtls_close_came,
  frame_came,
  sent_again,
}

-- what a frame did to a part
pub record Takes (frame : DtlsFrame) (p q : DtlsContents) : Type 0 where
  pub told : List Output
  pub sent : List (List ℕ)
  pub greatest : q.greatest ≡ p.greatest
  pub outputs : q.outputs ≡ p.outputs ++ told
  pub packets : q.packets ≡ p.packets ++ sent
  pub got : (bytes : List ℕ) → Member (Data bytes) told → frame ≡ said.Data bytes
  pub unsent : (bytes : List ℕ) → Member (23 ∷ bytes) sent → ⊥

-- packets of the handshake are no application data
no_data : (kind : ℕ) (rest bytes : List ℕ) → kind ≡ 22 → (23 ∷ bytes) ≡ (kind ∷ rest) → ⊥
no_data kind rest bytes e h = let first : List ℕ → ℕ = λ l. first_of_list l in absurd (omega (arith, e, ap first h))
  where
    first_of_list : List ℕ → ℕ
    first_of_list [] = 0
    first_of_list (x ∷ xs) = x

takes_none : (frame : DtlsFrame) (p : DtlsContents) → Takes frame p p
takes_none frame p = record {
  told = [];
  sent = [];
  greatest = refl;
  outputs = sym (append-nil p.outputs);
  packets = sym (append-nil p.packets);
  got = λ b m. absurd m;
  unsent = λ b m. absurd m;
}

takes_went : (frame : DtlsFrame) (phase : Phase) (told : List Output) (sent : List (List ℕ)) (p : DtlsContents)
    → ((bytes : List ℕ) → Member (Data bytes) told → frame ≡ said.Data bytes) → ((bytes : List ℕ) → Member (23 ∷ bytes) sent → ⊥)
    → Takes frame p (went_on phase told sent p)
unfolding went_on
takes_went frame phase told sent p g u = record {
  told = told;
  sent = sent;
  greatest = refl;
  outputs = refl;
  packets = refl;
  got = g;
  unsent = u;
}

-- one packet of the handshake is sent, and nothing is reported
takes_sent : (frame : DtlsFrame) (phase : Phase) (rest : List ℕ) (p : DtlsContents) → Takes frame p (went_on phase [] ((22 ∷ rest) ∷ []) p)
takes_sent frame phase rest p = takes_went frame phase [] ((22 ∷ rest) ∷ []) p (λ b m. absurd m) (λ b m. sent_no b m)
  where
    sent_no : (bytes : List ℕ) → Member (23 ∷ bytes) ((22 ∷ rest) ∷ []) → ⊥
    sent_no bytes (inl h) = no_data 22 rest bytes refl h
    sent_no bytes (inr h) = absurd h

start_takes : (phase : Phase) (p : DtlsContents) → Takes said.Start p (start_came phase p)
start_takes NoRole p = takes_none said.Start p
start_takes AwaitStart p = takes_sent said.Start AwaitCert (1 ∷ p.cert) p
start_takes AwaitCert p = takes_none said.Start p
start_takes AwaitHello p = takes_none said.Start p
start_takes AwaitFinish p = takes_none said.Start p
start_takes FinishedActive p = takes_none said.Start p
start_takes FinishedPassive p = takes_none said.Start p

hello_told : (cert bytes : List ℕ) → Member (Data bytes) (PeerCert cert ∷ []) → said.Hello cert ≡ said.Data bytes
hello_told cert bytes (inl h) = absurd (cc h)
hello_told cert bytes (inr h) = absurd h

hello_sent : (rest bytes : List ℕ) → Member (23 ∷ bytes) ((22 ∷ rest) ∷ []) → ⊥
hello_sent rest bytes (inl h) = no_data 22 rest bytes refl h
hello_sent rest bytes (inr h) = absurd h

hello_takes : (phase : Phase) (cert : List ℕ) (p : DtlsContents) → Takes (said.Hello cert) p (hello_came phase cert p)
hello_takes NoRole cert p = takes_none (said.Hello cert) p
hello_takes AwaitStart cert p = takes_none (said.Hello cert) p
hello_takes AwaitCert cert p = takes_none (said.Hello cert) p
hello_takes AwaitHello cert p = takes_went (said.Hello cert) AwaitFinish (PeerCert cert ∷ []) (certificate_packet p.cert
    ∷ []) p (hello_told cert) (hello_sent (2 ∷ p.cert))
hello_takes AwaitFinish cert p = takes_sent (said.Hello cert) AwaitFinish (2 ∷ p.cert) p
hello_takes FinishedActive cert p = takes_none (said.Hello cert) p
hello_takes FinishedPassive cert p = takes_none (said.Hello cert) p

finished_told : (frame : DtlsFrame) (cert bytes : List ℕ) → Member (Data bytes) (PeerCert cert ∷ Keying ∷ Connected ∷ []) → frame
    ≡ said.Data bytes
finished_told frame cert bytes (inl h) = absurd (cc h)
finished_told frame cert bytes (inr (inl h)) = absurd (cc h)
finished_told frame cert bytes (inr (inr (inl h))) = absurd (cc h)
finished_told frame cert bytes (inr (inr (inr h))) = absurd h

certificate_takes : (phase : Phase) (cert : List ℕ) (p : DtlsContents) → Takes (said.Certificate cert) p (certificate_came phase cert p)
certificate_takes NoRole cert p = takes_none (said.Certificate cert) p
certificate_takes AwaitStart cert p = takes_went (said.Certificate cert) FinishedActive (PeerCert cert ∷ Keying ∷ Connected
    ∷ []) (finish_packet ∷ []) p (finished_told (said.Certificate cert) cert) (hello_sent (3 ∷ []))
certificate_takes AwaitCert cert p = takes_went (said.Certificate cert) FinishedActive (PeerCert cert ∷ Keying ∷ Connected
    ∷ []) (finish_packet ∷ []) p (finished_told (said.Certificate cert) cert) (hello_sent (3 ∷ []))
certificate_takes AwaitHello cert p = takes_none (said.Certificate cert) p
certificate_takes AwaitFinish cert p = takes_none (said.Certificate cert) p
certificate_takes FinishedActive cert p = takes_sent (said.Certificate cert) FinishedActive (3 ∷ []) p
certificate_takes FinishedPassive cert p = takes_none (said.Certificate cert) p

keyed_told : (frame : DtlsFrame) (bytes : List ℕ) → Member (Data bytes) (Keying ∷ Connected ∷ []) → frame ≡ said.Data bytes
keyed_told frame bytes (inl h) = absurd (cc h)
keyed_told frame bytes (inr (inl h)) = absurd (cc h)
keyed_told frame bytes (inr (inr h)) = absurd h

finish_takes : (phase : Phase) (p : DtlsContents) → Takes said.Finish p (finish_came phase p)
finish_takes NoRole p = takes_none said.Finish p
finish_takes AwaitStart p = takes_none said.Finish p
finish_takes AwaitCert p = takes_none said.Finish p
finish_takes AwaitHello p = takes_none said.Finish p
finish_takes AwaitFinish p = takes_went said.Finish FinishedPassive (Keying ∷ Connected
    ∷ []) [] p (keyed_told said.Finish) (λ b m. absurd m)
finish_takes FinishedActive p = takes_none said.Finish p
finish_takes FinishedPassive p = takes_none said.Finish p

data_told : (came bytes : List ℕ) → Member (Data bytes) (Data came ∷ []) → said.Data came ≡ said.Data bytes
data_told came bytes (inl h) = let e : bytes ≡ came = cc h in ap said.Data (sym e)
data_told came bytes (inr h) = absurd h

first_data_told : (came bytes : List ℕ) → Member (Data bytes) (Keying ∷ Connected ∷ Data came ∷ []) → said.Data came ≡ said.Data bytes
first_data_told came bytes (inl h) = absurd (cc h)
first_data_told came bytes (inr (inl h)) = absurd (cc h)
first_data_told came bytes (inr (inr h)) = data_told came bytes h

data_takes : (phase : Phase) (bytes : List ℕ) (p : DtlsContents) → Takes (said.Data bytes) p (data_came phase bytes p)
data_takes NoRole bytes p = takes_none (said.Data bytes) p
data_takes AwaitStart bytes p = takes_none (said.Data bytes) p
data_takes AwaitCert bytes p = takes_none (said.Data bytes) p
data_takes AwaitHello bytes p = takes_none (said.Data bytes) p
data_takes AwaitFinish bytes p = takes_went (said.Data bytes) FinishedPassive (Keying ∷ Connected ∷ Data bytes
    ∷ []) [] p (first_data_told bytes) (λ b m. absurd m)
data_takes FinishedActive bytes p = takes_went (said.Data bytes) FinishedActive (Data bytes ∷ []) [] p (data_told bytes) (λ b m. absurd m)
data_takes FinishedPassive bytes p = takes_went (said.Data bytes) FinishedPassive (Data bytes ∷ []) [] p (data_told bytes) (λ b m. absurd m)

close_only : (bytes : List ℕ) → Member (Data bytes) (Close ∷ []) → said.Close ≡ said.Data bytes
close_only bytes (inl h) = absurd (cc h)
close_only bytes (inr h) = absurd h

close_takes : (notified : Bool) (p : DtlsContents) → Takes said.Close p (dtls_close_came notified p)
unfolding close_told
close_takes true p = takes_none said.Close p
close_takes false p = record {
  told = Close
      ∷ [];
  sent = [];
  greatest = refl;
  outputs = refl;
  packets = sym (append-nil p.packets);
  got = close_only;
  unsent = λ b m. absurd m;
}

pub frame_takes : (frame : DtlsFrame) (p : DtlsContents) → Takes frame p (frame_came frame p)
frame_takes said.Start p = start_takes p.phase p
frame_takes (said.Hello cert) p = hello_takes p.phase cert p
frame_takes (said.Certificate cert) p = certificate_takes p.phase cert p
frame_takes said.Finish p = finish_takes p.phase p
frame_takes (said.Data bytes) p = data_takes p.phase bytes p
frame_takes said.Close p = close_takes p.notified p
frame_takes said.Unknown p = takes_none said.Unknown p

-- time reports nothing, and sends at most one packet of the handshake
pub record Repeats (p q : DtlsContents) : Type 0 where
  pub takes : Takes said.Unknown p q
  pub nothing : q.outputs ≡ p.outputs
  pub few : length q.packets ≤ length p.packets + 1

repeats_none : (p : DtlsContents) → Repeats p p
repeats_none p = record { takes = takes_none said.Unknown p; nothing = refl; few = omega arith }

repeats_sent : (phase : Phase) (rest : List ℕ) (p : DtlsContents) → Repeats p (went_on phase [] ((22 ∷ rest) ∷ []) p)
unfolding went_on
repeats_sent phase rest p = record {
  takes = takes_sent said.Unknown phase rest p;
  nothing = append-nil p.outputs;
  few = omega (arith, length-append p.packets ((22 ∷ rest) ∷ []));
}

pub again_repeats : (phase : Phase) (p : DtlsContents) → Repeats p (sent_again phase p)
again_repeats NoRole p = repeats_none p
again_repeats AwaitStart p = repeats_sent AwaitCert (1 ∷ p.cert) p
again_repeats AwaitCert p = repeats_sent AwaitCert (1 ∷ p.cert) p
again_repeats AwaitHello p = repeats_none p
again_repeats AwaitFinish p = repeats_sent AwaitFinish (2 ∷ p.cert) p
again_repeats FinishedActive p = repeats_none p
again_repeats FinishedPassive p = repeats_none p
