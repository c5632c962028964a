pub mod NumberedChannels
pub mod CancelledRows
pub mod StanceSteps
pub mod StandingPolls
pub mod StandingChannels
pub mod UnusedStreams
pub mod StepKinds
pub mod EmptyStreams
pub mod RoleStarts
pub mod StandingSteps
pub mod RestartChanges
pub mod Bounds
pub mod OpRows
pub mod AddedRows
pub mod PlacedRows
pub mod UndoneRows
pub mod NotedOps
pub mod StagedApps
pub mod StagedChanges
pub mod StagedOps
pub mod StagedChannelOps
pub mod Staging
pub mod AnsweredOps
pub mod StagedNumbers
pub mod PushedLists
pub mod Tells
pub mod Entries
pub mod TokenEntries
pub mod RolledTokens
pub mod Around
pub mod UnreadSdps
pub mod Rests
pub mod RestReplies
pub mod OfferSteps
pub mod OfferTells
pub mod AnswerSteps
pub mod AnswerTells
pub mod RollbackSteps
pub mod KeptTexts
pub mod Outstands
pub mod OutstandingSteps
pub mod NegotiationOut
pub mod UndoneSteps
pub mod OfferApps
pub mod NegotiateSteps
pub mod SaidSdps
pub mod OfferTables
pub mod Takings
pub mod MakesSdps
pub mod FinishedRows
pub mod AnswerCounts
pub mod SoundPasts
pub mod SeenSides
pub mod SeenTexts
pub mod SeenSteps
pub mod PastTables
pub mod PastOffers
pub mod PastRows
pub mod PastAnswers
pub mod FinishedRounds
pub mod RowNames
pub mod RowsFollow
pub mod LiveRows
pub mod CourseOps
pub mod ChannelCounts
pub mod CourseSdps
pub mod RoundRows
pub mod UnspentTokens
pub mod Courses
pub mod OrderlySteps
pub mod RestCourses
pub mod CourseSteps
pub mod OrderlyOps
pub mod OrderlyPasts
pub mod KeptApps
pub mod StartHalves
pub mod RestoredApps
pub mod StartedSides
pub mod SideRounds
pub mod SideRoundSteps
pub mod OrderlyRuns
pub mod OpsNext
pub mod OrderlyNext
pub mod QuietSteps
pub mod OrderlySounds
pub mod StanceRuns
pub mod CarriedLines
pub mod TakenLines
pub mod ReadTaken
pub mod ChunkTexts
pub mod RowLines
pub mod PlainSdps
pub mod AsReadSdps
pub mod ReadPasts
pub mod LegibleSdps
pub mod FormedSteps
mod SingleSdps
mod SingleSteps
pub mod PlainRuns
pub mod ReadFacts
mod StartFacts
pub mod Reaches
pub mod OutstandingRuns
pub mod NativeSteps
pub mod CountedFaults
pub mod StreamFaults
pub mod MediaFaults
pub mod GrowingCounts
pub mod StageCounts
pub mod ClosingCounts
pub mod ConnectionCounts
pub mod StreamCounts
pub mod PollCounts
pub mod InputCounts
pub mod OpParts
pub mod RestSides
pub mod ChannelFaults
pub mod SideFaults
pub mod SoundSides
pub mod PartsSound
pub mod SentPackets
pub mod MoreSteps
pub mod ContentsLemmas
pub mod NegotiationActed
pub mod NewPeers
pub mod StandingExchange
pub mod StepsExchange
pub mod RunsExchange
mod WorkedUses
mod EarlyData
mod WorkedRests
pub mod UseLists
mod RowLemmas
pub mod UsesTold
mod RolledUses
mod AnnouncedStreams
mod BehindOpenings
mod BehindSides
mod UsesPolled
mod UsesOpened
mod OpenedAnew
mod OpenedThere
mod OutSides
mod SidesTold
mod WholeUses
mod WholePolled
mod KeptNegotiation
mod StandingSides
mod PolledSteps
pub mod OpenStreams
mod StepsTold
mod GotAndSent
mod AllHanded
mod QuietActs
mod UnfinishedParts
mod FinishedSides
mod HeardSides
mod TimeoutSides
mod UncalledSteps
pub mod RunsTold
pub mod UnusedPairs
mod RestingSides
mod HeardOpenings
mod OpenSides
mod SettledSides
mod AnsweredOpenings
mod StillSides
mod StandingVisits
mod StandingReadings
mod StandingEntries
mod StandingTours
mod StreamPolls
mod PlacedEntries
mod StandingCalls
mod ConfigRows
mod EnsuredNumbers
mod BegunRows
mod OpenedRows
mod StepRows
mod ConfirmedRuns
mod DtlsFinishes
pub mod ConnectedPolls
pub mod ConnectedRuns
mod ConfirmedSides
mod ClosingRows
mod ClosingSettled
mod ClosingSteps
mod ClosingItems
mod ClosingCalls
mod ClosingEnds
mod ClosingMoves
mod ClosingPairs
mod KeptStreams
mod IdleSides
mod SettledOpens
pub mod SettledRuns
pub mod KnownRows
pub mod KnownRuns
pub mod KnownSides
pub mod RefusedSides
mod OwnedRows
mod SureRows
mod CancelledSides
mod OwnedAllocation
mod OwnedChanges
mod SideChanges
mod RoleSides
pub mod OwnedRuns
mod NumberedTokens
mod OwnNegotiation
mod OwnTokens
mod LostChannels
mod SettledInBand
mod StayingStreams
mod NumberedRows
mod SureNumbers
mod PolledUses
mod ReadOpenings
mod BegunOpenings
mod LastOpenings
mod UnsettledRows
mod OpeningFacts
mod OwnerPolls
mod OwnerSteps
mod UseWalks
mod ClosedUses
mod RolesApart
mod NoneAnnounced
mod OwnerSides
mod OwnerActs
mod OwnerRuns
mod KeptInBand
mod OwnerSettled
pub mod OwnNumbers
pub mod OwnSides
pub mod ThereRows
pub mod ThereRuns
pub mod PiecePairs
pub mod AloneSides
pub mod ConfirmedPairs
pub mod StreamSteps
pub mod BandedRows
pub mod BandedMoments
pub mod BandedInputs
pub mod BandedNegotiation
pub mod BandedAcceptances
pub mod StepWalks
pub mod BandedSteps
pub mod BandedRuns
pub mod BandedUses
pub mod SettlesRuns
pub mod SentOrder
pub mod TimelyItems
pub mod ClosingLevels
pub mod SoundActs
pub mod Silence
pub mod GotStretches
pub mod OutPairs
pub mod SentUses
pub mod SilentRuns
pub mod HandsRuns
pub mod Delivered
pub mod UndrivenNegotiation
pub mod UndrivenRuns
pub mod CrossingPhases
pub mod CrossingStates
pub mod CrossingMeets
pub mod CrossingActs
pub mod CrossingOffers
pub mod CrossingClashes
pub mod CrossingReplies
pub mod CrossingSteps
pub mod CrossedRounds
pub mod CrossedEnds
pub mod UndoneOps
pub mod Knowns
pub mod CrossingLaw
pub mod CrossingRuns
pub mod CrossingRoles
pub mod CrossingRows
pub mod CrossingOpens
pub mod CrossingPaths
pub mod TakenTexts
pub mod ReadHashes
pub mod HashCauses
pub mod HashPolls
pub mod HashSides
pub mod HashRuns
pub mod CompletingVisits
pub mod CompletingSteps
pub mod CompletingPolls
pub mod CompletingRuns
pub mod CompletingUses
pub mod LastItems
pub mod LastActs
pub mod LastMessagesHeld
pub mod AcknowledgedPairs
pub mod AcknowledgedSides
pub mod ShutEntries
pub mod ShutVisits
pub mod ShutPolls
pub mod ShutCalls
pub mod CountedItems
pub mod EndReports
pub mod EventEnds
pub mod SilentEnds
pub mod CalmActs
pub mod ShutRows
pub mod UnestablishedPolls
pub mod ConnectedActs
pub mod UnestablishedRows
pub mod UnfinishedActs
pub mod FreshSides
pub mod RestedSides
pub mod RestedTimeouts
pub mod OpenedRests
pub mod RestedCalls
pub mod RestedSteps
pub mod RestedRuns
mod UnendedStreams
mod UnendedEntries
mod UnendedTours
mod UnendedEvents
mod UnendedPolls
mod ReadVisits
mod UnendedReads
mod PlainFinishes
mod PlainReads
mod UnendedCalls
mod UnendedRows
mod SilentStages
mod TracedPolls
mod ToldEntries
mod ToldEvents
mod SidesInOne
mod ToldInOne
mod OutOpenings
mod OutRows
mod OutEntries
pub mod FirstBands
mod OutUses
pub mod AnnouncedBands
pub mod OutRuns
pub mod SoundSteps
pub mod OwnBandRuns
