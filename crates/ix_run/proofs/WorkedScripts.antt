-- Worked scripts: what the definition of the replies computes.
use Rattle.std.proofs.Common.{◌≡◌, [], codes, refl}
use Rattle.std.specs.Fmt.{digits}
use Rattle.ix_run.specs.Script.{replies_to}

replies_to-nil : replies_to [] ≡ []
unfolding replies_to
replies_to-nil = refl

replies_to-queue : replies_to (codes "queue fixed 1\npush 123\npush 5\nover 456\npop\npop") ≡ codes "ready\ntrue\nfalse\nsome 123\nsome 456\nnone\n"
unfolding replies_to digits
replies_to-queue = refl

replies_to-table : replies_to (codes "table heap 3\ninsert 10\ninsert 20\nremove 0\nnext\ninsert 30\ninsert_at 2 40\ninsert 50\nshow") ≡ codes "ready\nsome 0\nsome 1\nsome 10\nsome 0\nsome 0\ntrue\nnone\n0=30 1=20 2=40\n"
unfolding replies_to digits
replies_to-table = refl

replies_to-text : replies_to (codes "text fixed 3\nappend 97 98\npush 200\npush 99\npush 100\nrfind\nshow\nhello") ≡ codes "ready\nok\nerror InvalidCharacter\nok\nerror InsertWouldExceedCapacity\nsome 3\n\"abc\"\n?\n"
unfolding replies_to digits
replies_to-text = refl

replies_to-flat : replies_to (codes "flat arena 1001\nflat arena 1\ninsert 1 2\ninsert 1 3\ninsert 2 4\nget 1\nkey 0\nkey 1") ≡ codes "?\nready\nok\nerror KeyAlreadyExists\nerror IsFull\nsome 2\nsome 1\nnone\n"
unfolding replies_to digits
replies_to-flat = refl

replies_to-vec : replies_to (codes "vec fixed 3\nextend 1 2\ninsert 9 7\nresize 4 0\nresize 3 5\nshow\ntruncate 9\nremove 0") ≡ codes "ready\nok\nerror OutOfBounds\nerror InsertWouldExceedCapacity\nok\n1 2 5\nok\nsome 1\n"
unfolding replies_to digits
replies_to-vec = refl

replies_to-empty_queue : replies_to (codes "queue heap 0\npush 1\nover 2\nshow\nfull\nempty") ≡ codes "ready\nfalse\nsome 2\n-\ntrue\ntrue\n"
unfolding replies_to digits
replies_to-empty_queue = refl

replies_to-numbers : replies_to (codes "push 1\nqueue fixed 2\nqueue fixed 3\npush 01\npush 18446744073709551615\npush 18446744073709551616\nshow") ≡ codes "?\n?\nready\n?\ntrue\n?\n18446744073709551615\n"
unfolding replies_to digits
replies_to-numbers = refl

replies_to-escaped : replies_to (codes "text arena 5\ninsert 1 97\nappend\nappend 97 9 98\nshow\ndrop 97\nlen") ≡ codes "ready\nerror IndexPastEnd\nok\nok\n\"a\\tb\"\nok\n2\n"
unfolding replies_to digits
replies_to-escaped = refl

-- a header asks for at most 1,000 places
replies_to-capacities : replies_to (codes "queue heap 1001\nqueue arena 1001\nqueue heap 1000\nfull") ≡ codes "?\n?\nready\nfalse\n"
unfolding replies_to digits
replies_to-capacities = refl

replies_to-arena : replies_to (codes "vec arena 1000\npop") ≡ codes "ready\nnone\n"
unfolding replies_to digits
replies_to-arena = refl

-- a line of 200 bytes is read, and one of 201 is not
replies_to-longest_line : replies_to (codes "vec fixed 1\nextend 1 1 1 1 1 1 1 1 1 1 1 1 1 1 1 1 1 1 1 1 1 1 1 1 1 1 1 1 1 1 1 1 1 1 1 1 1 1 1 1 1 1 1 1 1 1 1 1 1 1 1 1 1 1 1 1 1 1 1 1 1 1 1 1 1 1 1 1 1 1 1 1 1 1 1 1 1 1 1 1 1 1 1 1 1 1 1 1 1 1 1 1 1 1 1 1 1\nextend 1 1 1 1 1 1 1 1 1 1 1 1 1 1 1 1 1 1 1 1 1 1 1 1 1 1 1 1 1 1 1 1 1 1 1 1 1 1 1 1 1 1 1 1 1 1 1 1 1 1 1 1 1 1 1 1 1 1 1 1 1 1 1 1 1 1 1 1 1 1 1 1 1 1 1 1 1 1 1 1 1 1 1 1 1 1 1 1 1 1 1 1 1 1 1 1 10") ≡ codes "ready\nerror InsertWouldExceedCapacity\n?\n"
unfolding replies_to digits
replies_to-longest_line = refl

replies_to-retired : replies_to (codes "slot heap 2 at 4294967295\ninsert 7\nremove 0:4294967295\ninsert 8\ninsert 9\nretired\nfull\nshow") ≡ codes "ready\nsome 0:4294967295\nsome 7\nsome 1:4294967295\nnone\n1\ntrue\n1:4294967295=8\n"
unfolding replies_to digits
replies_to-retired = refl

replies_to-slot : replies_to (codes "slot fixed 3\ninsert 10\nremove 0:0\ninsert 20\nget 0:0\nget 0:1\ninsert_at 0 30\nget 0:1\nremove 0:2\nnext\nshow") ≡ codes "ready\nsome 0:0\nsome 10\nsome 0:1\nnone\nsome 20\nsome 0:2\nnone\nsome 30\nsome 0:3\n-\n"
unfolding replies_to digits
replies_to-slot = refl

replies_to-no_keys : replies_to (codes "slot fixed 3\nget 0\nget 0:\nget :0\nget 0:00\nget 0:4294967296\nget 0: 0\ninsert_at 0:0 1\nnext") ≡ codes "ready\n?\n?\n?\n?\n?\n?\n?\nsome 0:0\n"
unfolding replies_to digits
replies_to-no_keys = refl

-- a generation of at most 4,294,967,295 may end a header of a slot map alone
replies_to-starts : replies_to (codes "slot fixed 3 at\nslot fixed 3 at 4294967296\nslot fixed 3  at 1\nqueue fixed 3 at 1\nslot arena 3 at 1\nnext\nfrom 0") ≡ codes "?\n?\n?\n?\nready\nsome 0:1\nnone\n"
unfolding replies_to digits
replies_to-starts = refl
