-- The number of each reason, and a refusal by its reason and its line.
use Rattle.std.specs.Prelude.{ℕ}
use Rattle.refusal.specs.declared.Reason.{Reason}
use Rattle.refusal.specs.declared.Reason.TheVariants.{
  MissingKey,
  UnlawfulValue,
  TooMany,
  ShortAnswer,
  ShortNotifications,
  AlreadyConfigured,
  StoreInUse,
  SliceTwice,
  EntriesBelowMax,
  StoreTooSmall,
  UnknownSlice,
  ThresholdOutOfRange,
  AlreadySubscribed,
  TooManySubscriptions,
  NoSubscription,
  StoreFull,
}
use Rattle.refusal.specs.declared.Refusal.{Refusal}

abbrev pub number : Reason → ℕ
number MissingKey = 1
number UnlawfulValue = 2
number TooMany = 3
number ShortAnswer = 4
number ShortNotifications = 5
number AlreadyConfigured = 6
number StoreInUse = 7
number SliceTwice = 8
number EntriesBelowMax = 9
number StoreTooSmall = 10
number UnknownSlice = 11
number ThresholdOutOfRange = 12
number AlreadySubscribed = 13
number TooManySubscriptions = 14
number NoSubscription = 15
number StoreFull = 16

-- a reason at a line of a text
abbrev pub refusal : Reason → ℕ → Refusal
refusal why at = record { reason = why; line = at }
