use Rattle.rtc_peer_sdp.proofs.credentials.+push_digits.Given as goal

abbrev pub decreases-push_digits : goal.decreases-push_digits
decreases-push_digits l = l.count
