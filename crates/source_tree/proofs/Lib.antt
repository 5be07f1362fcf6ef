mod SpelledWords
