-- Each form by its number: that its picture takes all that lies between its texts is computed.
use Rattle.characters.specs.Answers.{from_true, pick}
use Rattle.groups.proofs.Between.{bounded_fits}
use Rattle.groups.specs.Formats.{form_of}
use Rattle.groups.specs.Forms.{takes}
use Rattle.groups.specs.Stored.{format_at, numbered, under}
use Rattle.groups.proofs.quick.surely_takes.Goals as goal

pub returns-in-0 : goal.returns-in-0
unfolding numbered under form_of pick takes
returns-in-0 c = λ e. rw c.in-0.is (bounded_fits (form_of (format_at 0)) _ _ _ tt (c.lies_between.ensures e))

pub returns-in-1 : goal.returns-in-1
unfolding numbered under form_of pick takes
returns-in-1 c = λ e. rw c.in-1.is (bounded_fits (form_of (format_at 1)) _ _ _ tt (c.lies_between-in-1.ensures e))

pub returns-in-2 : goal.returns-in-2
unfolding numbered under form_of pick takes
returns-in-2 c = λ e. rw c.in-2.is (bounded_fits (form_of (format_at 2)) _ _ _ tt (c.lies_between-in-2.ensures e))

pub returns-in-3 : goal.returns-in-3
unfolding numbered under form_of pick takes
returns-in-3 c = λ e. rw c.in-3.is (bounded_fits (form_of (format_at 3)) _ _ _ tt (c.lies_between-in-3.ensures e))

pub returns-in-4 : goal.returns-in-4
unfolding numbered under form_of pick takes
returns-in-4 c = λ e. rw c.in-4.is (bounded_fits (form_of (format_at 4)) _ _ _ tt (c.lies_between-in-4.ensures e))

pub returns-in-5 : goal.returns-in-5
unfolding numbered under form_of pick takes
returns-in-5 c = λ e. rw c.in-5.is (bounded_fits (form_of (format_at 5)) _ _ _ tt (c.lies_between-in-5.ensures e))

pub returns-in-6 : goal.returns-in-6
unfolding numbered under form_of pick takes
returns-in-6 c = λ e. rw c.in-6.is (bounded_fits (form_of (format_at 6)) _ _ _ tt (c.lies_between-in-6.ensures e))

pub returns-in-7 : goal.returns-in-7
unfolding numbered under form_of pick takes
returns-in-7 c = λ e. rw c.in-7.is (bounded_fits (form_of (format_at 7)) _ _ _ tt (c.lies_between-in-7.ensures e))

pub returns-in-8 : goal.returns-in-8
unfolding numbered under form_of pick takes
returns-in-8 c = λ e. rw c.in-8.is (bounded_fits (form_of (format_at 8)) _ _ _ tt (c.lies_between-in-8.ensures e))

pub returns-in-9 : goal.returns-in-9
unfolding numbered under form_of pick takes
returns-in-9 c = λ e. rw c.in-9.is (bounded_fits (form_of (format_at 9)) _ _ _ tt (c.lies_between-in-9.ensures e))

pub returns-in-10 : goal.returns-in-10
unfolding numbered under form_of pick takes
returns-in-10 c = λ e. rw c.in-10.is (bounded_fits (form_of (format_at 10)) _ _ _ tt (c.lies_between-in-10.ensures e))

pub returns-in-11 : goal.returns-in-11
unfolding numbered under form_of pick takes
returns-in-11 c = λ e. rw c.in-11.is (bounded_fits (form_of (format_at 11)) _ _ _ tt (c.lies_between-in-11.ensures e))

pub returns-in-12 : goal.returns-in-12
unfolding numbered under form_of pick takes
returns-in-12 c = λ e. rw c.in-12.is (bounded_fits (form_of (format_at 12)) _ _ _ tt (c.lies_between-in-12.ensures e))

pub returns-in-13 : goal.returns-in-13
unfolding numbered under form_of pick takes
returns-in-13 c = λ e. rw c.in-13.is (bounded_fits (form_of (format_at 13)) _ _ _ tt (c.lies_between-in-13.ensures e))

pub returns-in-14 : goal.returns-in-14
unfolding numbered under form_of pick takes
returns-in-14 c = λ e. rw c.in-14.is (bounded_fits (form_of (format_at 14)) _ _ _ tt (c.lies_between-in-14.ensures e))

pub returns-in-15 : goal.returns-in-15
unfolding numbered under form_of pick takes
returns-in-15 c = λ e. rw c.in-15.is (bounded_fits (form_of (format_at 15)) _ _ _ tt (c.lies_between-in-15.ensures e))

pub returns-in-16 : goal.returns-in-16
unfolding numbered under form_of pick takes
returns-in-16 c = λ e. rw c.in-16.is (bounded_fits (form_of (format_at 16)) _ _ _ tt (c.lies_between-in-16.ensures e))

pub returns-in-17 : goal.returns-in-17
unfolding numbered under form_of pick takes
returns-in-17 c = λ e. rw c.in-17.is (bounded_fits (form_of (format_at 17)) _ _ _ tt (c.lies_between-in-17.ensures e))

pub returns-in-18 : goal.returns-in-18
unfolding numbered under form_of pick takes
returns-in-18 c = λ e. rw c.in-18.is (bounded_fits (form_of (format_at 18)) _ _ _ tt (c.lies_between-in-18.ensures e))

pub returns-in-19 : goal.returns-in-19
unfolding numbered under form_of pick takes
returns-in-19 c = λ e. rw c.in-19.is (bounded_fits (form_of (format_at 19)) _ _ _ tt (c.lies_between-in-19.ensures e))

pub returns-in-20 : goal.returns-in-20
unfolding numbered under form_of pick takes
returns-in-20 c = λ e. rw c.in-20.is (bounded_fits (form_of (format_at 20)) _ _ _ tt (c.lies_between-in-20.ensures e))

pub returns-then-lies_between : goal.returns-then-lies_between
unfolding numbered under form_of pick takes
returns-then-lies_between c =
    λ e. rw c.in-21.is (bounded_fits (form_of (format_at 21)) _ _ _ tt (c.lies_between-in-21.ensures e))

pub returns-else-lies_between : goal.returns-else-lies_between
unfolding numbered under form_of pick takes
returns-else-lies_between c =
    λ e. rw c.in-21.is (bounded_fits (form_of (format_at 21)) _ _ _ tt (c.lies_between-else-lies_between.ensures e))

pub returns-then-lies_between-2 : goal.returns-then-lies_between-2
unfolding numbered under form_of pick takes
returns-then-lies_between-2 c =
    λ e. rw c.in-22.is (bounded_fits (form_of (format_at 22)) _ _ _ tt (c.lies_between-in-22.ensures e))

pub returns-else-lies_between-2 : goal.returns-else-lies_between-2
unfolding numbered under form_of pick takes
returns-else-lies_between-2 c =
    λ e. rw c.in-22.is (bounded_fits (form_of (format_at 22)) _ _ _ tt (c.lies_between-else-lies_between-2.ensures e))

pub returns-then-lies_between-3 : goal.returns-then-lies_between-3
unfolding numbered under form_of pick takes
returns-then-lies_between-3 c =
    λ e. rw c.in-23.is (bounded_fits (form_of (format_at 23)) _ _ _ tt (c.lies_between-in-23.ensures e))

pub returns-else-lies_between-3 : goal.returns-else-lies_between-3
unfolding numbered under form_of pick takes
returns-else-lies_between-3 c =
    λ e. rw c.in-23.is (bounded_fits (form_of (format_at 23)) _ _ _ tt (c.lies_between-else-lies_between-3.ensures e))

pub returns-then-lies_between-4 : goal.returns-then-lies_between-4
unfolding numbered under form_of pick takes
returns-then-lies_between-4 c =
    λ e. rw c.in-24.is (bounded_fits (form_of (format_at 24)) _ _ _ tt (c.lies_between-in-24.ensures e))

pub returns-else-lies_between-4 : goal.returns-else-lies_between-4
unfolding numbered under form_of pick takes
returns-else-lies_between-4 c =
    λ e. rw c.in-24.is (bounded_fits (form_of (format_at 24)) _ _ _ tt (c.lies_between-else-lies_between-4.ensures e))

pub returns-then-lies_between-5 : goal.returns-then-lies_between-5
unfolding numbered under form_of pick takes
returns-then-lies_between-5 c =
    λ e. rw c.in-25.is (bounded_fits (form_of (format_at 25)) _ _ _ tt (c.lies_between-in-25.ensures e))

pub returns-else-lies_between-5 : goal.returns-else-lies_between-5
unfolding numbered under form_of pick takes
returns-else-lies_between-5 c =
    λ e. rw c.in-25.is (bounded_fits (form_of (format_at 25)) _ _ _ tt (c.lies_between-else-lies_between-5.ensures e))

pub returns-in-26 : goal.returns-in-26
unfolding numbered under form_of pick takes
returns-in-26 c = λ e. rw c.in-26.is (bounded_fits (form_of (format_at 26)) _ _ _ tt (c.lies_between-in-26.ensures e))

pub returns-in-27 : goal.returns-in-27
unfolding numbered under form_of pick takes
returns-in-27 c = λ e. rw c.in-27.is (bounded_fits (form_of (format_at 27)) _ _ _ tt (c.lies_between-in-27.ensures e))

pub returns-in-28 : goal.returns-in-28
unfolding numbered under form_of pick takes
returns-in-28 c = λ e. rw c.in-28.is (bounded_fits (form_of (format_at 28)) _ _ _ tt (c.lies_between-in-28.ensures e))

pub returns-in-29 : goal.returns-in-29
unfolding numbered under form_of pick takes
returns-in-29 c = λ e. rw c.in-29.is (bounded_fits (form_of (format_at 29)) _ _ _ tt (c.lies_between-in-29.ensures e))

pub returns-in_default : goal.returns-in_default
returns-in_default c = λ e. absurd (from_true e)
