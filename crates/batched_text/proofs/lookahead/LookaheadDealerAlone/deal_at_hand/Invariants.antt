use Rattle.batched_text.proofs.lookahead.LookaheadDealerAlone.deal_at_hand.Given as goal

-- it is by these names and of these bytes
abbrev pub ghosts-run_ahead : goal.ghosts-run_ahead
ghosts-run_ahead g a = record { names = a.names.now; bytes = a.buffered.now.bytes.now }
