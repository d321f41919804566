-- Lists of waiting frames: one within another, and what a feed can carry.
use Rattle.std.specs.Prelude.{List, [], ◌∷◌, ◌++◌}
use Rattle.feed.specs.Feeds.{Waiting, Op, Behaviour, after, Within, within_none, within_more, within_both, AllCarried, Lawful}

-- a list of frames stands within itself
pub within_same : (xs : List Waiting) → Within xs xs
within_same [] = within_none
within_same (x ∷ xs) = within_both (within_same xs)

-- if two lists each stand within another, the two put together stand within the other two put together
pub within-append : {xs xs' ys ys' : List Waiting} → Within xs xs' → Within ys ys' → Within (xs ++ ys) (xs' ++ ys')
within-append within_none q = q
within-append (within_more p) q = within_more (within-append p q)
within-append (within_both p) q = within_both (within-append p q)

-- a list stands within itself with other frames behind it
pub within-before : (xs ys : List Waiting) → Within xs (xs ++ ys)
within-before [] [] = within_none
within-before [] (y ∷ ys) = within_more (within-before [] ys)
within-before (x ∷ xs) ys = within_both (within-before xs ys)

-- if a feed can carry all frames of two lists, then also all of the two put together
pub carried-append : (xs ys : List Waiting) → AllCarried xs → AllCarried ys → AllCarried (xs ++ ys)
carried-append [] ys p q = q
carried-append (x ∷ xs) ys p q = (p.0, carried-append xs ys p.1 q)

-- the law holds on after any operation
pub after-lawful : {m : Behaviour} (o : Op) → Lawful m → Lawful (after m o)
after-lawful o l =
    record {
      ticked = λ ops r. l.ticked (o ∷ ops) r;
      nexted = λ ops. l.nexted (o ∷ ops);
      idle = λ ops more. l.idle (o ∷ ops) more;
      carried = λ ops. l.carried (o ∷ ops);
    }
