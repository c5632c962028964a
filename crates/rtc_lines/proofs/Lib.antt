mod SkippedLaw
