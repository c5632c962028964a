use Rattle.std.proofs.Common.{◌≡◌, ℕ, List, ◌++◌, Bor, drop, map, string_bytes}
use Rattle.rtc_sdp_text.specs.Repair.{fed}
use Rattle.rtc_sdp_text.proofs.repairing.push_pieces.Given as goal

-- what is written and what is to come
abbrev pub invariant-loop-piece : goal.invariant-loop-piece
invariant-loop-piece l = string_bytes l.text ++ fed (map (λ (piece : Bor (List ℕ)). piece.now) (drop l.piece-index l.pieces)) ≡ string_bytes l.fn.text ++ fed (map (λ (piece : Bor (List ℕ)). piece.now) l.pieces)
