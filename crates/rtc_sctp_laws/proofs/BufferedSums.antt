-- What a write leaves buffered over all streams in use.
use Rattle.std.proofs.Common.{◌≡◌, ◌≢◌, ◌+◌, ◌-◌, ◌<◌, ◌≤◌, ◌==◌, ℕ, Bool, true, false, true≢false, List, [], ◌∷◌, length, Result, Ok, Err, refl, sym, ap, subst, ◌∙◌, arith}
use Rattle.std.specs.Prelude.{IfOk}
use Rattle.std.proofs.lemmas.Bool.{eqb-true}
use Rattle.rtc_parts.specs.AssociationLaws.{AssociationLaws, Buffers}
use Rattle.rtc_parts.specs.AssociationMeaning.{AssociationMeaning}
use Rattle.rtc_sctp_entries.specs.declared.stream_entry.StreamEntry.{StreamEntry}
use Rattle.rtc_sctp_entries.specs.Entries.{Ascend, AscendFrom}
use Rattle.rtc_sctp_values.specs.declared.sctp_error.SctpError.{SctpError}
use Rattle.rtc_sctp.specs.Calls.{WritesStream, WrittenIf, buffered_sum, can_write, is_current, is_nil, written_ppi}
use Rattle.rtc_sctp.specs.Streams.{SctpStreams}

module _ {S : Type 0} (m : AssociationMeaning S) where
  -- the sum over streams none of which was written to
  sum_same : (p q : S) (id low : ℕ) (es : List StreamEntry) → id < low → AscendFrom low es
      → ((other : ℕ) → other ≢ id → m.buffered q other ≡ m.buffered p other) → buffered_sum m q es ≡ buffered_sum m p es
  sum_same p q id low [] less h others = refl
  sum_same p q id low (e ∷ es) less h others =
      let first : m.buffered q e.id ≡ m.buffered p e.id = others e.id (λ is. omega (arith, less, h.0, is)) in
      let rest : buffered_sum m q es ≡ buffered_sum m p es = sum_same p q id (e.id + 1) es (omega (arith, less, h.0)) h.1 others in
      omega (arith, first, rest)

  -- a write raises the sum by the message at most, since one entry at most is of its stream
  sum_bound : (p q : S) (id count low : ℕ) (es : List StreamEntry) → AscendFrom low es → Buffers m p id count q
      → buffered_sum m q es ≤ buffered_sum m p es + count
  sum_bound p q id count low [] h b = omega arith
  sum_bound p q id count low (e ∷ es) h b = by (e.id == id) refl (sum_bound p q id count (e.id + 1) es h.1 b)
    where
      by : (c : Bool) → (e.id == id) ≡ c → buffered_sum m q es ≤ buffered_sum m p es + count → buffered_sum m q (e ∷ es) ≤ buffered_sum m p (e ∷ es) + count
      by true is bound =
          let same : e.id ≡ id = eqb-true e.id id is in
          let here : m.buffered q e.id ≤ m.buffered p e.id + count = subst (λ (k : ℕ). m.buffered q k ≤ m.buffered p k + count) (sym same) b.bound in
          let rest : buffered_sum m q es ≡ buffered_sum m p es = sum_same p q id (e.id + 1) es (omega (arith, same)) h.1 b.others in
          omega (arith, here, rest)
      by false is bound =
          let first : m.buffered q e.id ≡ m.buffered p e.id = b.others e.id (λ same. true≢false (sym (grind (arith, same)) ∙ is)) in
          omega (arith, first, bound)

  -- a message that fits into what was available leaves no more buffered than may be
  pub write_fits : AssociationLaws m → (id : ℕ) (binary : Bool) (bytes : List ℕ) (p : SctpStreams S) (r : Result ℕ SctpError)
      (q : SctpStreams S) → Ascend p.entries → WritesStream m id binary bytes p r q → 0 < length bytes
      → length bytes ≤ p.max_buffered - buffered_sum m p.association p.entries
      → IfOk r (λ n. buffered_sum m q.association q.entries ≤ q.max_buffered)
  write_fits laws id binary bytes p r q ascend h some fits = by (can_write m id p) (is_current m id p) h
    where
      by : (can current : Bool) → WrittenIf m can current id binary bytes p r q
          → IfOk r (λ n. buffered_sum m q.association q.entries ≤ q.max_buffered)
      by false current k = subst (λ (x : Result ℕ SctpError). IfOk x (λ n. buffered_sum m q.association q.entries ≤ q.max_buffered)) (sym k.0) tt
      by true false k = subst (λ (x : Result ℕ SctpError). IfOk x (λ n. buffered_sum m q.association q.entries ≤ q.max_buffered)) (sym k.0) tt
      by true true (Err error, wrote, is, rest) =
          subst (λ (x : Result ℕ SctpError). IfOk x (λ n. buffered_sum m q.association q.entries ≤ q.max_buffered)) (sym is) tt
      by true true (Ok n, wrote, is, rest) =
          subst (λ (x : Result ℕ SctpError). IfOk x (λ n. buffered_sum m q.association q.entries ≤ q.max_buffered)) (sym is)
          (let bound : buffered_sum m q.association p.entries ≤ buffered_sum m p.association p.entries + length bytes =
          sum_bound p.association q.association id (length bytes) 0 p.entries ascend
          (laws.write_buffers p.association q.association id (written_ppi binary (is_nil bytes)) bytes n wrote) in
          let entries : q.entries ≡ p.entries = ap (λ (x : SctpStreams S). x.entries) rest in
          let most : q.max_buffered ≡ p.max_buffered = ap (λ (x : SctpStreams S). x.max_buffered) rest in
          let below : buffered_sum m q.association p.entries ≤ p.max_buffered = omega (arith, bound, some, fits) in
          subst (λ (l : List StreamEntry). buffered_sum m q.association l ≤ q.max_buffered) (sym entries)
          (subst (λ (k : ℕ). buffered_sum m q.association p.entries ≤ k) (sym most) below))
